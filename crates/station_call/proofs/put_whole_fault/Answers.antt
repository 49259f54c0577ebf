use Rattle.floats.proofs.Branch.{yes, no}
use Rattle.text.proofs.Pieces.{same}
use Rattle.station_call.proofs.put_whole_fault.Goals as goal

pub returns-then-n : goal.returns-then-n
returns-then-n c = same (yes _ _ _ c.if-n.true) c.put_bytes.ensures

pub returns : goal.returns
returns c = same (no _ _ _ c.if-n.false) c.put_bytes-2.ensures
