use mathlib.Core.Path.{◌≡◌, sym, ap, ◌∙◌}
use Prim.Native.Nat.{ℕ, ◌+◌, ◌*◌, ◌<◌, ◌≤◌}
use native.Mathlib.Nat.{zero-mul, zero-add, le-mul_of_pos_right}
use native.Mathlib.Omega.{arith}
use mathlib.Core.Bool.{◌&&◌}
use lib.Dec.{ltb}
use lib.Ieee.{lt}
use borrow.Author.Tests.{lt-ltb}
use Rattle.floats.specs.Notation.{dec}
use Rattle.floats.proofs.Literals.{literal}
use Rattle.decimals.proofs.Spelled.{and_true}
use Rattle.decimals.proofs.has_minus.Goals as goal

pub returns-then-n-eq0 : goal.returns-then-n-eq0
unfolding literal
returns-then-n-eq0 c =
    let a = c.args in
    let e : a.n.part ≡ a.n.whole * a.ten + a.n.part =
    sym (ap (λ (z : ℕ). z * a.ten + a.n.part) c.if-n-eq0.true ∙ ap (λ (z : ℕ). z + a.n.part) (zero-mul a.ten) ∙ zero-add a.n.part) in
    ap (λ (z : ℕ). lt a.x (dec 0 0) && ltb 0 z) e

pub returns : goal.returns
unfolding literal
returns c =
    let s = c in
    let a = s.args in
    let p : 0 < a.n.whole = omega (arith, c.if-n-eq0.false) in
    let q : a.n.whole ≤ a.n.whole * a.ten = le-mul_of_pos_right a.n.whole s.requires in
    let h : 0 < a.n.whole * a.ten + a.n.part = omega arith in
    and_true (lt a.x (dec 0 0)) (ltb 0 (a.n.whole * a.ten + a.n.part)) (lt-ltb 0 (a.n.whole * a.ten + a.n.part) h)
