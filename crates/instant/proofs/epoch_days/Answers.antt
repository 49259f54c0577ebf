use mathlib.Core.Path.{sym}
use Rattle.instant.specs.Greenwich.{epoch_days_at}
use Rattle.instant.proofs.epoch_days.Goals as goal

pub returns-then-in_calendar : goal.returns-then-in_calendar
unfolding epoch_days_at
returns-then-in_calendar c = simp (sym c.in_calendar.ensures, c.if-in_calendar.true, c.days_at.ensures)

pub returns : goal.returns
unfolding epoch_days_at
returns c = simp (sym c.in_calendar.ensures, c.if-in_calendar.false)
