use mathlib.Core.Path.{sym, ap, ◌∙◌}
use Rattle.station_text.specs.Words.{start_at, start_from}
use Rattle.station_text.proofs.start_from.Goals as goal

pub returns-in-Ok : goal.returns-in-Ok
unfolding start_from
returns-in-Ok c = simp c.if-year-day.true (sym (ap start_at (sym c.instant_of.ensures ∙ c.in-Ok.is)))

pub returns : goal.returns
unfolding start_from
returns c = simp c.if-year-day.false
