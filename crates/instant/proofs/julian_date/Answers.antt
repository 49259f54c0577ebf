use mathlib.Core.Path.{sym}
use Rattle.instant.specs.Greenwich.{julian_at}
use Rattle.instant.proofs.julian_date.Goals as goal

pub returns-then-in_calendar : goal.returns-then-in_calendar
unfolding julian_at
returns-then-in_calendar c = simp (sym c.in_calendar.ensures, c.if-in_calendar.true, c.julian_at.ensures)

pub returns : goal.returns
unfolding julian_at
returns c = simp (sym c.in_calendar.ensures, c.if-in_calendar.false)
