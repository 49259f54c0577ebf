use mathlib.Core.Path.{◌≡◌, sym, ap, ◌∙◌}
use Prim.Native.Nat.{ℕ, ◌≤◌, ◌<◌}
use native.Mathlib.Omega.{arith}
use lib.IntN.{ℤ, pos, nat_abs}
use lib.Ieee.{neg, div, of_bits}
use mir.Syntax.{w64}
use mir.Val.{to_z, of_z}
use mir.ValLaws.{to_z-of_z}
use borrow.Author.Tests.{le-leb, lt-leb}
use Rattle.instant.specs.Quantity.{powered_of, scaled_of}
use Rattle.instant.proofs.Signed.{negative}
use Rattle.instant.proofs.Exponent.{minus, plus, in_range_lem}
use Rattle.instant.proofs.scaled.Tie as tie
use Rattle.instant.proofs.scaled.Lts as lts
use Rattle.instant.proofs.scaled.Reads as reads
use Rattle.instant.proofs.scaled.Goals as goal

mantissa : (c : (lts.After-magnitude tie.the-claims reads.Pre reads.Post)) → c.magnitude-m.result ≡ nat_abs c.args.mantissa
mantissa c = c.magnitude-m.ensures ∙ ap nat_abs (to_z-of_z w64 _ c.ranges.mantissa)

exponent : (c : (lts.After-magnitude2 tie.the-claims reads.Pre reads.Post)) → c.magnitude.result ≡ nat_abs c.args.exponent
exponent c = c.magnitude.ensures ∙ ap nat_abs (to_z-of_z w64 _ c.ranges.exponent)

pub returns-then-m-gt99999 : goal.returns-then-m-gt99999
unfolding scaled_of of_bits div
returns-then-m-gt99999 c =
    let h : 99999 < nat_abs c.args.mantissa = omega (arith, mantissa c.before) in
    simp (lt-leb _ _ h)

pub returns-then-magnitude-gt9 : goal.returns-then-magnitude-gt9
unfolding scaled_of of_bits div
returns-then-magnitude-gt9 c =
    let g : nat_abs c.args.mantissa ≤ 99999 = omega (arith, mantissa c.before.before.before) in
    let h : 9 < nat_abs c.args.exponent = omega (arith, exponent c.before) in
    simp (le-leb _ _ g, lt-leb _ _ h)

-- in range: the code's quotient is that of the mantissa's size
inner : (c : (lts.After-powered tie.the-claims reads.Pre reads.Post)) → c.powered-q.result ≡ powered_of (pos (nat_abs c.args.mantissa)) c.args.exponent
inner c =
    let a = c.args in
    c.powered-q.ensures
    ∙ ap (λ (m : ℕ). powered_of (pos m) (to_z w64 (of_z w64 a.exponent))) (mantissa c.before.before.before.before)
    ∙ ap (λ (e : ℤ). powered_of (pos (nat_abs a.mantissa)) e) (to_z-of_z w64 _ c.ranges.exponent)

known : (c : (lts.After-powered tie.the-claims reads.Pre reads.Post)) → powered_of c.args.mantissa c.args.exponent ≡ scaled_of c.args.mantissa c.args.exponent
known c = in_range_lem _ _ (omega (arith, mantissa c.before.before.before.before)) (omega (arith, exponent c.before.before))

pub returns-then-mantissa-lt0 : goal.returns-then-mantissa-lt0
returns-then-mantissa-lt0 c =
    ap neg (inner c.before)
    ∙ minus _ _ (sym (negative _ c.ranges.mantissa) ∙ c.if-mantissa-lt0.true)
    ∙ known c.before

pub returns : goal.returns
returns c =
    inner c.before
    ∙ plus _ _ (sym (negative _ c.ranges.mantissa) ∙ c.if-mantissa-lt0.false)
    ∙ known c.before
