use mathlib.Core.Path.{ap, sym, ◌∙◌}
use Rattle.changes.specs.Entry.{same_designator}
use Rattle.tle.specs.declared.Designator.{Designator}
use Rattle.tle.specs.declared.Designator.TheVariants.{Blank}
use Rattle.field_lines.proofs.same_designator.Goals as goal

pub returns-in-Blank-second : goal.returns-in-Blank-second
unfolding same_designator
returns-in-Blank-second c =
    let a = c.args in sym (ap (λ (d : Designator). same_designator d a.second) c.in-Blank.is ∙ ap (same_designator Blank) c.in-Blank-second.is)

pub returns-in-Piece-second : goal.returns-in-Piece-second
unfolding same_designator
returns-in-Piece-second c =
    let a = c.args in sym (ap (λ (d : Designator). same_designator d a.second) c.in-Blank.is ∙ ap (same_designator Blank) c.in-Piece-second.is)

pub returns-in-Piece : goal.returns-in-Piece
returns-in-Piece c =
    let a = c.args in c.same_piece.ensures ∙ sym (ap (λ (d : Designator). same_designator d a.second) c.in-Piece.is)
