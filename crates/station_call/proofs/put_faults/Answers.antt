use Rattle.text.proofs.Pieces.{both}
use Rattle.station_call.specs.Call.{faults_text}
use Rattle.station_call.proofs.put_faults.Goals as goal

pub returns : goal.returns
unfolding faults_text
returns c =
    both c.put_place_fault-p.ensures (both c.put_start_fault-p.ensures (both c.put_whole_fault-p.ensures c.put_whole_fault.ensures))
