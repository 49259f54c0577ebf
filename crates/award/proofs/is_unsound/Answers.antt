use mathlib.Core.Path.{sym, ◌∙◌}
use Rattle.award.proofs.Rules.{no_start, no_end, no_time, bid_tells}
use Rattle.award.proofs.is_unsound.Goals as goal

pub returns-then-not-in_calendar : goal.returns-then-not-in_calendar
returns-then-not-in_calendar c = no_start _ (sym c.in_calendar.ensures ∙ c.if-not-in_calendar.true)

pub returns-then-not-in_calendar-2 : goal.returns-then-not-in_calendar-2
returns-then-not-in_calendar-2 c =
    no_end _ (sym c.in_calendar.ensures ∙ c.if-not-in_calendar.false) (sym c.in_calendar-2.ensures ∙ c.if-not-in_calendar-2.true)

pub returns-then-offer : goal.returns-then-offer
returns-then-offer c =
    no_time _ (sym c.in_calendar.ensures ∙ c.if-not-in_calendar.false) (sym c.in_calendar-2.ensures ∙ c.if-not-in_calendar-2.false)
    c.if-offer.true

pub returns : goal.returns
returns c =
    bid_tells _ (sym c.in_calendar.ensures ∙ c.if-not-in_calendar.false) (sym c.in_calendar-2.ensures ∙ c.if-not-in_calendar-2.false)
    c.if-offer.false
