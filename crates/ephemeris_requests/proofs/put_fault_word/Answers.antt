use mathlib.Core.Path.{sym, ap}
use Rattle.text.proofs.Pieces.{same}
use Rattle.ephemeris_requests.specs.Requests.{fault_word}
use Rattle.ephemeris_requests.proofs.put_fault_word.Goals as goal

pub returns-in-Request : goal.returns-in-Request
returns-in-Request c = same (sym (ap fault_word c.in-Request.is)) c.put_bytes.ensures

pub returns-in-Grid : goal.returns-in-Grid
returns-in-Grid c = same (sym (ap fault_word c.in-Grid.is)) c.put_bytes-in-Grid.ensures

pub returns-in-Instant : goal.returns-in-Instant
returns-in-Instant c = same (sym (ap fault_word c.in-Instant.is)) c.put_bytes-in-Instant.ensures

pub returns-in-Times : goal.returns-in-Times
returns-in-Times c = same (sym (ap fault_word c.in-Times.is)) c.put_bytes-in-Times.ensures
