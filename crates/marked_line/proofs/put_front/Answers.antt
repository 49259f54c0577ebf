use mathlib.Core.Path.{◌≡◌, ap, ◌∙◌}
use mathlib.Core.List.{map}
use lib.ListN.{take}
use native.Mathlib.Omega.{arith}
use Prim.Native.Nat.{◌-◌}
use Rattle.text.proofs.Pieces.{same}
use Rattle.marked_line.specs.Marked.{visible}
use Rattle.marked_line.proofs.Fronts.{take_least}
use Rattle.marked_line.proofs.put_front.Goals as goal

pub returns : goal.returns
returns c =
    let p = c in
    let a = p.args in
    let z : p.at_most-m.result - 0 ≡ p.at_most-m.result = omega arith in
    let e : take p.at_most-m.result a.line.now ≡ take a.n a.line.now = ap (λ k. take k a.line.now) p.at_most-m.ensures.0 ∙ take_least a.n a.line.now in
    same (ap (λ k. map visible (take k a.line.now)) z ∙ ap (map visible) e) p.put_visible.ensures
