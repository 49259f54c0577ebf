use Rattle.station_call.specs.Call.{samples_of}
use Rattle.station_call.proofs.samples_of.Goals as goal

pub returns : goal.returns
unfolding samples_of
returns c = c.samples_from.ensures
