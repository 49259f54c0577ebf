use mathlib.Core.Path.{sym, ap, ◌∙◌}
use mathlib.Core.Bool.{false}
use Prim.Native.Nat.{ℕ}
use native.Mathlib.Omega.{arith}
use lib.IntN.{ℤ}
use lib.Ieee.{binary64, neg, div, of_int, round, units, odd, size, span, climb, of_bits}
use lib.Count.{count_trailing_zeros}
use mir.Syntax.{w64}
use mir.Val.{SFits}
use mir.ValLaws.{to_z-of_z}
use Rattle.instant.specs.Quantity.{minutes_of}
use Rattle.instant.proofs.Signed.{negative, exact}
use Rattle.instant.proofs.Once.{once_signed, over_negative, over_positive}
use Rattle.instant.proofs.to_minutes.Tie as tie
use Rattle.instant.proofs.to_minutes.Lts as lts
use Rattle.instant.proofs.to_minutes.Reads as reads
use Rattle.instant.proofs.to_minutes.Goals as goal

fit : (c : (lts.After-struct_told tie.the-claims reads.Pre reads.Post)) → SFits w64 c.args.t.0
fit c = record { sfits = omega arith }

pub int_to_float-result : goal.int_to_float-result
int_to_float-result c = rw (to_z-of_z w64 _ (fit c.before.before.before)) (exact _ (omega arith))

pub returns-then-d-le9007199254740992 : goal.returns-then-d-le9007199254740992
unfolding minutes_of round units odd size span climb count_trailing_zeros of_bits
returns-then-d-le9007199254740992 c =
    ap (λ (z : ℤ). div binary64 (of_int binary64 z) (round binary64 false 60000000 1)) (to_z-of_z w64 _ (fit c.before.before.before))
    ∙ once_signed c.args.t.0 60000000 (omega arith) (omega arith) (omega arith)

pub returns-then-x-lt0 : goal.returns-then-x-lt0
unfolding minutes_of
returns-then-x-lt0 c =
    ap neg (c.long_quotient-q.ensures ∙ ap (λ (n : ℕ). round binary64 false n 60000000) c.distance-d.ensures)
    ∙ over_negative c.args.t.0 60000000 (sym (negative _ (fit c.before.before.before.before)) ∙ c.if-x-lt0.true)

pub returns : goal.returns
unfolding minutes_of
returns c =
    c.long_quotient-q.ensures
    ∙ ap (λ (n : ℕ). round binary64 false n 60000000) c.distance-d.ensures
    ∙ over_positive c.args.t.0 60000000 (sym (negative _ (fit c.before.before.before.before)) ∙ c.if-x-lt0.false)
