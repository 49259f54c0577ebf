use mathlib.Core.Path.{sym}
use Rattle.instant.specs.Calendar.{date_of, years_since}
use Rattle.instant.proofs.Calendar.{year_begun}
use Rattle.instant.proofs.date_of.Goals as goal

pub overflow_sub-result : goal.overflow_sub-result
unfolding years_since
overflow_sub-result c = rw c.days_before-before.ensures (year_begun _)

pub returns-then-in_calendar : goal.returns-then-in_calendar
unfolding date_of years_since
returns-then-in_calendar c = simp (sym c.in_calendar.ensures, c.if-in_calendar.true, c.days_before-before.ensures)

pub returns-else-in_calendar : goal.returns-else-in_calendar
unfolding date_of
returns-else-in_calendar c = simp (sym c.in_calendar.ensures, c.if-in_calendar.false)
