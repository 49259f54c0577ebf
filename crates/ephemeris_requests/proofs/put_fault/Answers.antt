use Rattle.text.proofs.Pieces.{both}
use Rattle.ephemeris_requests.specs.Requests.{fault_text}
use Rattle.ephemeris_requests.proofs.put_fault.Goals as goal

pub returns : goal.returns
unfolding fault_text
returns c = both c.put_bytes-p.ensures (both c.put_decimal-p.ensures c.put_fault_word.ensures)
