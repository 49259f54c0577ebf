use Rattle.award_text.specs.Print.{refusal_text}
use Rattle.text.proofs.Pieces.{both}
use Rattle.award_text.proofs.put_refusal.Goals as goal

pub returns : goal.returns
unfolding refusal_text
returns c = both c.put_bytes-p.ensures (both c.put_decimal-p.ensures c.put_byte.ensures)
