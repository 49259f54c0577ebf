use mathlib.Core.Path.{sym}
use Rattle.instant.specs.Move.{landed}
use Rattle.instant.proofs.land.Goals as goal

pub returns-then-in_calendar : goal.returns-then-in_calendar
unfolding landed
returns-then-in_calendar c = simp (sym c.in_calendar.ensures, c.if-in_calendar.true)

pub returns-else-in_calendar : goal.returns-else-in_calendar
unfolding landed
returns-else-in_calendar c = simp (sym c.in_calendar.ensures, c.if-in_calendar.false)
