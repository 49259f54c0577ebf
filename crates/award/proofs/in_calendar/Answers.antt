use mathlib.Core.Path.{sym, ◌∙◌}
use Rattle.award.proofs.Rules.{inside, outside}
use Rattle.award.proofs.in_calendar.Goals as goal

pub returns-in-Some : goal.returns-in-Some
returns-in-Some c = inside _ _ (sym c.date_of.ensures ∙ c.in-Some.is)

pub returns-in-None : goal.returns-in-None
returns-in-None c = outside _ (sym c.date_of.ensures ∙ c.in-None.is)
