use mathlib.Core.Path.{ap, sym}
use Rattle.changes.specs.Entry.{same_designator}
use Rattle.tle.specs.declared.Designator.TheVariants.{Piece}
use Rattle.field_lines.proofs.same_piece.Goals as goal

pub returns-in-Blank : goal.returns-in-Blank
unfolding same_designator
returns-in-Blank c = let a = c.args in sym (ap (same_designator (Piece a.launch a.a a.b a.c)) c.in-Blank.is)

pub returns-in-Piece : goal.returns-in-Piece
unfolding same_designator
returns-in-Piece c = let a = c.args in sym (ap (same_designator (Piece a.launch a.a a.b a.c)) c.in-Piece.is)
