use mathlib.Core.Path.{sym}
use Rattle.instant.specs.Greenwich.{greenwich_of, greenwich_at}
use Rattle.instant.proofs.greenwich.Goals as goal

pub returns-then-in_calendar : goal.returns-then-in_calendar
unfolding greenwich_at greenwich_of
returns-then-in_calendar c = simp (sym c.in_calendar.ensures, c.if-in_calendar.true, c.gstime.ensures, c.julian_at.ensures)

pub returns : goal.returns
unfolding greenwich_at
returns c = simp (sym c.in_calendar.ensures, c.if-in_calendar.false)
