use mathlib.Core.Path.{◌≡◌, sym, ap, ◌∙◌}
use mathlib.Core.Bool.{true, false}
use Prim.Native.Nat.{ℕ, ◌+◌, ◌-◌}
use native.Mathlib.Omega.{arith}
use mir.Syntax.{w64}
use mir.Val.{SFits}
use Rattle.instant.specs.Calendar.{in_calendar}
use Rattle.instant.specs.Move.{landed}
use Rattle.instant.proofs.Signed.{back, negative}
use Rattle.instant.proofs.Calendar.{below}
use Rattle.instant.proofs.Move.{too_far, from_outside, forward, backward, before_first}
use Rattle.instant.proofs.move_by.Tie as tie
use Rattle.instant.proofs.move_by.Lts as lts
use Rattle.instant.proofs.move_by.Reads as reads
use Rattle.instant.proofs.move_by.Goals as goal

fit : (c : (lts.After-struct_told tie.the-claims reads.Pre reads.Post)) → SFits w64 c.args.span.0
fit c = record { sfits = omega arith }

-- the instant is outside in the second branch, and inside past it
out : (c : (lts.Then2 tie.the-claims reads.Pre reads.Post)) → in_calendar c.args.t.0 ≡ false
out c = sym c.in_calendar.ensures ∙ c.if-not-in_calendar.true

inn : (c : (lts.Else2 tie.the-claims reads.Pre reads.Post)) → in_calendar c.args.t.0 ≡ true
inn c = sym c.in_calendar.ensures ∙ c.if-not-in_calendar.false

-- the span is negative in the third branch, and not past it
neg : (c : (lts.Then3 tie.the-claims reads.Pre reads.Post)) → back c.args.span.0 ≡ true
neg c = sym (negative _ (fit c.before.before.before.before.before)) ∙ c.if-s-lt0.true

non : (c : (lts.Else3 tie.the-claims reads.Pre reads.Post)) → back c.args.span.0 ≡ false
non c = sym (negative _ (fit c.before.before.before.before.before)) ∙ c.if-s-lt0.false

pub returns-then-d-gt315532800000000 : goal.returns-then-d-gt315532800000000
returns-then-d-gt315532800000000 c = too_far _ _ (omega arith)

pub returns-then-not-in_calendar : goal.returns-then-not-in_calendar
returns-then-not-in_calendar c = from_outside _ _ (omega arith) (out c)

pub returns-then-d-x : goal.returns-then-d-x
returns-then-d-x c =
    c.land.ensures
    ∙ ap (λ (d : ℕ). landed (c.args.t.0 - d)) c.distance-d.ensures
    ∙ backward _ _ (omega arith) (inn c.before.before.before) (neg c.before.before) (omega arith)

pub returns-then-s-lt0 : goal.returns-then-s-lt0
returns-then-s-lt0 c = before_first _ _ (omega arith) (inn c.before.before) (neg c.before) (omega arith)

pub returns : goal.returns
returns c =
    c.land-2.ensures
    ∙ ap (λ (d : ℕ). landed (c.args.t.0 + d)) c.distance-d.ensures
    ∙ forward _ _ (omega arith) (inn c.before.before) (non c.before)

pub overflow_add-x : goal.overflow_add-x
overflow_add-x c = omega (arith, below _ (inn c.before))
