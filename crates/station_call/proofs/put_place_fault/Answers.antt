use mathlib.Core.Path.{sym, ap}
use Rattle.text.proofs.Pieces.{same}
use Rattle.station_call.specs.Call.{place_fault}
use Rattle.station_call.proofs.put_place_fault.Goals as goal

pub returns-in-Fixed : goal.returns-in-Fixed
returns-in-Fixed c = same (sym (ap place_fault c.in-Fixed.is)) c.put_bytes.ensures

pub returns-in-Over : goal.returns-in-Over
returns-in-Over c = same (sym (ap place_fault c.in-Over.is)) c.put_bytes-in-Over.ensures

pub returns-in-Unread : goal.returns-in-Unread
returns-in-Unread c = same (sym (ap place_fault c.in-Unread.is)) c.put_bytes-in-Unread.ensures
