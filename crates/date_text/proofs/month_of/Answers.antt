use mathlib.Core.Path.{◌≡◌, refl, ◌∙◌}
use Prim.Native.Nat.{◌+◌, ◌-◌}
use native.Mathlib.Omega.{arith}
use Rattle.date_text.specs.Date.{month_of}
use Rattle.date_text.proofs.Months.{stop, turn, end}
use Rattle.date_text.proofs.month_of.Goals as goal

pub loop-month-init : goal.loop-month-init
unfolding month_of
loop-month-init c = refl

pub returns-then-rest-size : goal.returns-then-rest-size
returns-then-rest-size c =
    let l = c.loop-month in
    stop (12 - l.month) _ l.month l.rest (omega arith) (rw c.month_length-size.ensures at c.if-rest-size.true) ∙ l.invariant

pub loop-month-preserved : goal.loop-month-preserved
loop-month-preserved c =
    let l = c.loop-month in
    let e : 12 - (l.month + 1) ≡ 12 - l.month - 1 = omega arith in
    rw (e, c.month_length-size.ensures)
    (turn (12 - l.month) c.args.year l.month l.rest (omega arith) (rw c.month_length-size.ensures at c.if-rest-size.false) ∙ l.invariant)

pub returns : goal.returns
returns c =
    let l = c.loop-month in
    let e : l.month ≡ 12 = omega arith in
    rw (← e) (end (12 - l.month) c.args.year l.month l.rest (omega arith) ∙ l.invariant)
