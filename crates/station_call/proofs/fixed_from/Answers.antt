use mathlib.Core.Path.{sym, ap}
use Rattle.station_call.specs.Call.{fixed_from}
use Rattle.station_call.proofs.fixed_from.Goals as goal

pub returns-in-At : goal.returns-in-At
returns-in-At c = sym (ap fixed_from c.in-At.is)

pub returns-in-Unread : goal.returns-in-Unread
returns-in-Unread c = sym (ap fixed_from c.in-Unread.is)
