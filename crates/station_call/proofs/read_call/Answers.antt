use Rattle.station_call.specs.Call.{call_of}
use Rattle.station_call.proofs.read_call.Goals as goal

pub returns : goal.returns
unfolding call_of
returns c =
    simp (c.read_whole-count.ensures, c.read_whole-step.ensures, c.read_start-start.ensures, c.read_place-place.ensures)
