use mathlib.Core.Path.{sym, ap}
use Rattle.text.proofs.Pieces.{same}
use Rattle.station_call.specs.Call.{start_fault}
use Rattle.station_call.proofs.put_start_fault.Goals as goal

pub returns-in-Some : goal.returns-in-Some
returns-in-Some c = same (sym (ap start_fault c.in-Some.is)) c.put_bytes.ensures

pub returns-in-None : goal.returns-in-None
returns-in-None c = same (sym (ap start_fault c.in-None.is)) c.put_bytes-in-None.ensures
