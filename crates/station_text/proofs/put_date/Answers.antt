use mathlib.Core.Path.{sym, ap, ◌∙◌}
use Rattle.station_text.specs.Print.{date_text}
use Rattle.text.proofs.Pieces.{same}
use Rattle.station_text.proofs.put_date.Goals as goal

pub returns-in-Some : goal.returns-in-Some
unfolding date_text
returns-in-Some c = same (sym (ap date_text (sym c.date_of.ensures ∙ c.in-Some.is))) c.put_day.ensures

pub returns-in-None : goal.returns-in-None
unfolding date_text
returns-in-None c = same (sym (ap date_text (sym c.date_of.ensures ∙ c.in-None.is))) c.put_byte.ensures
