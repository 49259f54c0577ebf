use Rattle.text.proofs.Pieces.{both}
use Rattle.explanation.specs.Explained.{progress_text}
use Rattle.explanation.proofs.put_progress.Goals as goal

pub returns : goal.returns
unfolding progress_text
returns c = both c.put_bytes-p.ensures (both c.put_decimal-p.ensures c.put_bytes.ensures)
