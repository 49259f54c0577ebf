use mathlib.Core.Path.{ap, sym, ◌∙◌}
use native.Mathlib.Omega.{arith}
use Rattle.text.proofs.Pieces.{both, same}
use borrow.Author.Tests.{eq-eqb, ne_eqb}
use Rattle.text.specs.Output.{bytes}
use Rattle.tle.specs.Read.{letter}
use Rattle.listing.specs.Listing.{then}
use Rattle.changes.specs.Entry.{same_class}
use mathlib.Core.List.{[], ◌∷◌}
use Rattle.field_lines.proofs.Pieces.{put_line, put_none}
use Rattle.field_lines.proofs.put_classes.Goals as goal

pub returns-then-x-y : goal.returns-then-x-y
unfolding same_class
returns-then-x-y c =
    let a = c.args in
    put_none (same_class a.first a.second) a.number (bytes "class") (then (letter a.first ∷ []) (letter a.second ∷ []))
    (eq-eqb (letter a.first) (letter a.second) (sym c.letter-x.ensures ∙ c.if-x-y.true ∙ c.letter-y.ensures)) (omega arith) (omega arith)

pub returns : goal.returns
unfolding same_class
returns c =
    let a = c.args in
    put_line (same_class a.first a.second) a.number (bytes "class") (then (letter a.first ∷ []) (letter a.second ∷ []))
    (ne_eqb (letter a.first) (letter a.second) (λ e. c.if-x-y.false (c.letter-x.ensures ∙ e ∙ sym c.letter-y.ensures)))
    c.put_name-p.ensures
    (both (same (ap (λ b. b ∷ []) c.letter-x.ensures) c.put_byte-p.ensures) (both c.put_byte-p-2.ensures (same (ap (λ b. b ∷ []) c.letter-y.ensures) c.put_byte-p-3.ensures)))
    c.put_byte.ensures
