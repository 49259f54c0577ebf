use native.Mathlib.Omega.{arith}
use Prim.Native.Nat.{◌-◌}
use lib.ListN.{take}
use mathlib.Core.Path.{◌≡◌, ap, ◌∙◌}
use Rattle.marked_line.specs.Marked.{named}
use Rattle.marked_line.proofs.Fronts.{take_least}
use Rattle.text.proofs.Pieces.{both, same}
use Rattle.column_faults.specs.Sums.{due_text, checksum_text}
use Rattle.column_faults.proofs.put_checksum_fault.Goals as goal

pub returns : goal.returns
unfolding checksum_text
returns c =
    let a = c.args in
    let z : c.at_most-n.result - 0 ≡ c.at_most-n.result = omega arith in
    let e : take c.at_most-n.result a.line.now ≡ take 68 a.line.now = ap (λ k. take k a.line.now) c.at_most-n.ensures.0 ∙ take_least 68 a.line.now in
    both c.put_place-p.ensures
    (both (same (ap named c.byte_at-stands.ensures) c.put_named-p.ensures)
    (both (same (ap (λ k. due_text (take k a.line.now)) z ∙ ap due_text e) c.put_due-p.ensures) c.put_marked.ensures))
