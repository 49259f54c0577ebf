use Rattle.award_text.specs.Print.{refusal_at_text}
use Rattle.text.proofs.Pieces.{both}
use Rattle.award_text.proofs.put_refusal_at.Goals as goal

pub returns : goal.returns
unfolding refusal_at_text
returns c =
    both c.put_bytes-p.ensures (both c.put_decimal-p.ensures (both c.put_byte-p.ensures (both c.put_decimal-p-2.ensures c.put_byte.ensures)))
