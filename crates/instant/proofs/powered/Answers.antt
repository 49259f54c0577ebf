use mathlib.Core.Path.{◌≡◌, sym, ap, ◌∙◌}
use mathlib.Core.Bool.{true, false}
use Prim.Native.Nat.{ℕ, ◌+◌, ◌-◌, ◌*◌, ◌^◌}
use native.Mathlib.Omega.{arith}
use lib.IntN.{nat_abs}
use lib.Ieee.{binary64, round}
use mir.Syntax.{w64}
use mir.ValLaws.{to_z-of_z}
use Rattle.instant.proofs.Signed.{back, negative}
use Rattle.instant.proofs.Exponent.{below, within, beyond, nine_digits}
use Rattle.instant.proofs.powered.Tie as tie
use Rattle.instant.proofs.powered.Lts as lts
use Rattle.instant.proofs.powered.Reads as reads
use Rattle.instant.proofs.powered.Goals as goal

-- the exponent's size, and its sign in the first branch and past it
size : (c : (lts.After-magnitude tie.the-claims reads.Pre reads.Post tie.handed_clauses)) → c.magnitude-e.result ≡ nat_abs c.args.exponent
size c = c.magnitude-e.ensures ∙ ap nat_abs (to_z-of_z w64 _ c.ranges.exponent)

neg : (c : (lts.Then1 tie.the-claims reads.Pre reads.Post tie.handed_clauses)) → back c.args.exponent ≡ true
neg c = sym (negative _ c.ranges.exponent) ∙ c.if-exponent-lt0.true

non : (c : (lts.Else1 tie.the-claims reads.Pre reads.Post tie.handed_clauses)) → back c.args.exponent ≡ false
non c = sym (negative _ c.ranges.exponent) ∙ c.if-exponent-lt0.false

pub returns-then-exponent-lt0 : goal.returns-then-exponent-lt0
returns-then-exponent-lt0 c =
    let a = c.args in
    c.quotient.ensures
    ∙ ap (λ (d : ℕ). round binary64 false a.m d) (c.power_of_ten.ensures.value ∙ ap (λ (x : ℕ). 10 ^ (5 + x)) (size c.before.before.before))
    ∙ below a.m a.exponent (neg c.before.before)

pub returns-then-e-le5 : goal.returns-then-e-le5
returns-then-e-le5 c =
    let a = c.args in
    let e = size c.before.before.before.before in
    c.quotient-then-e-le5.ensures
    ∙ ap (λ (d : ℕ). round binary64 false a.m d) (c.power_of_ten-then-e-le5.ensures.value ∙ ap (λ (x : ℕ). 10 ^ (5 - x)) e)
    ∙ within a.m a.exponent (non c.before.before.before) (omega arith)

pub overflow_mul-m : goal.overflow_mul-m
overflow_mul-m c =
    let e = size c.before.before.before in
    rw c.power_of_ten-2.ensures.value (omega (arith, nine_digits c.args.m (c.magnitude-e.result - 5) (omega arith) (omega arith)))

pub returns : goal.returns
returns c =
    let a = c.args in
    let e = size c.before.before.before.before in
    c.quotient-2.ensures
    ∙ ap (λ (p : ℕ). round binary64 false (a.m * p) 1) (c.power_of_ten-2.ensures.value ∙ ap (λ (x : ℕ). 10 ^ (x - 5)) e)
    ∙ beyond a.m a.exponent (non c.before.before.before) (omega arith)

pub overflow_add-e : goal.overflow_add-e
overflow_add-e c = omega (arith, size c.before)

pub power_of_ten-requires : goal.power_of_ten-requires
power_of_ten-requires c = omega (arith, size c.before)

pub power_of_ten-requires-2 : goal.power_of_ten-requires-2
power_of_ten-requires-2 c = omega (arith, size c.before.before)
