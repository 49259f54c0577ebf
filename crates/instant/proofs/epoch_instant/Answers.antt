use mathlib.Core.Path.{sym, ◌∙◌}
use Prim.Native.Nat.{◌≤◌, ◌<◌}
use native.Mathlib.Omega.{arith}
use borrow.Author.Tests.{lt-leb, le-leb}
use Rattle.instant.specs.Calendar.{epoch_of, year_in_range, epoch_micros}
use Rattle.instant.proofs.Calendar.{days_before_lem, day_bounds}
use Rattle.instant.proofs.epoch_instant.Tie as tie
use Rattle.instant.proofs.epoch_instant.Lts as lts
use Rattle.instant.proofs.epoch_instant.Reads as reads
use Rattle.instant.proofs.epoch_instant.Goals as goal

-- the day is in its range, and the days before the year are those of 99 years at most
day : (c : (lts.After-days_before tie.the-claims reads.Pre reads.Post)) → (100000000 ≤ c.args.day) × (c.args.day < 36700000000)
day c = day_bounds _ _ (sym c.day_in_range.ensures ∙ c.if-day_in_range.true)

before : (c : (lts.After-days_before tie.the-claims reads.Pre reads.Post)) → c.days_before-before.result ≤ 36159
before c = rw (c.days_before-before.ensures, days_before_lem) (omega arith)

pub returns-then-year-lt1957 : goal.returns-then-year-lt1957
unfolding epoch_of year_in_range
returns-then-year-lt1957 c = simp (lt-leb _ _ c.if-year-lt1957.true)

pub returns-then-year-gt2056 : goal.returns-then-year-gt2056
unfolding epoch_of year_in_range
returns-then-year-gt2056 c = simp (le-leb _ _ c.if-year-lt1957.false, lt-leb _ _ c.if-year-gt2056.true)

pub returns-then-day_in_range : goal.returns-then-day_in_range
unfolding epoch_of year_in_range epoch_micros
returns-then-day_in_range c =
    simp (le-leb _ _ c.if-year-lt1957.false, le-leb _ _ c.if-year-gt2056.false, sym c.day_in_range.ensures, c.if-day_in_range.true, c.days_before-before.ensures)

pub returns-else-day_in_range : goal.returns-else-day_in_range
unfolding epoch_of year_in_range
returns-else-day_in_range c =
    simp (le-leb _ _ c.if-year-lt1957.false, le-leb _ _ c.if-year-gt2056.false, sym c.day_in_range.ensures, c.if-day_in_range.false)

pub overflow_mul-before : goal.overflow_mul-before
overflow_mul-before c = omega (arith, before c)

pub overflow_sub-result : goal.overflow_sub-result
overflow_sub-result c = omega (arith, day c)

pub overflow_mul-result : goal.overflow_mul-result
overflow_mul-result c = omega (arith, day c)

pub overflow_add-result : goal.overflow_add-result
overflow_add-result c = omega (arith, day c, before c)
