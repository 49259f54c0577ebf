use Rattle.text.proofs.Pieces.{both}
use Rattle.column_faults.specs.Faults.{size_text}
use Rattle.column_faults.proofs.put_size.Goals as goal

pub returns : goal.returns
unfolding size_text
returns c =
    both c.put_bytes-p.ensures (both c.put_byte-p.ensures (both c.put_bytes-p-2.ensures (both c.put_decimal-p.ensures c.put_bytes.ensures)))
