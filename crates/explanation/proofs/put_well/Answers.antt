use Rattle.text.proofs.Pieces.{both}
use Rattle.explanation.specs.Explained.{well_text}
use Rattle.explanation.proofs.put_well.Goals as goal

pub returns : goal.returns
unfolding well_text
returns c =
    both c.put_bytes-p.ensures (both c.put_decimal-p.ensures (both c.put_epoch-p.ensures (both c.put_period-p.ensures c.put_bytes.ensures)))
