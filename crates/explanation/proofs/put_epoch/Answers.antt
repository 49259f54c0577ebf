use mathlib.Core.Path.{ap}
use Rattle.text.proofs.Pieces.{both, same}
use Rattle.explanation.specs.Explained.{date_of_epoch, epoch_text}
use Rattle.explanation.proofs.put_epoch.Goals as goal

pub returns : goal.returns
unfolding epoch_text
returns c =
    both c.put_bytes-p.ensures (both (same (ap date_of_epoch c.epoch-e.ensures) c.put_date-p.ensures)
    (both c.put_bytes-p-2.ensures (both c.put_part-p.ensures c.put_bytes.ensures)))
