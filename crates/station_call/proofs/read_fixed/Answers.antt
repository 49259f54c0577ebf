use mathlib.Core.Path.{ap, ◌∙◌}
use Rattle.station_call.specs.Call.{fixed_from}
use Rattle.station_call.proofs.read_fixed.Goals as goal

pub returns : goal.returns
returns c = c.fixed_from.ensures ∙ ap fixed_from c.read_station.ensures
