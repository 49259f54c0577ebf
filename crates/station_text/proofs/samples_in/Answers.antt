use Prim.Native.Nat.{◌-◌}
use native.Mathlib.Omega.{arith}
use borrow.Author.Tests.{eq-eqb, ne_eqb, lt-ltb, le-ltb}
use Rattle.station_text.specs.Print.{samples_in}
use Rattle.station_text.proofs.Words.{few}
use Rattle.station_text.proofs.samples_in.Goals as goal

pub returns-then-step-eq0 : goal.returns-then-step-eq0
unfolding samples_in
returns-then-step-eq0 c = simp (eq-eqb _ _ c.if-step-eq0.true)

pub returns-then-step-gt86400 : goal.returns-then-step-gt86400
unfolding samples_in
returns-then-step-gt86400 c = simp (ne_eqb _ _ c.if-step-eq0.false, lt-ltb _ _ c.if-step-gt86400.true)

pub returns-then-b-a : goal.returns-then-b-a
unfolding samples_in
returns-then-b-a c = simp (ne_eqb _ _ c.if-step-eq0.false, le-ltb _ _ c.if-step-gt86400.false, lt-ltb _ _ c.if-b-a.true)

pub overflow_add-result : goal.overflow_add-result
overflow_add-result c =
    omega (arith, few (c.args.last.0 - c.args.first.0) c.args.step (omega arith) (omega (arith, c.if-step-eq0.false)))

pub returns : goal.returns
unfolding samples_in
returns c = simp (ne_eqb _ _ c.if-step-eq0.false, le-ltb _ _ c.if-step-gt86400.false, le-ltb _ _ c.if-b-a.false)
