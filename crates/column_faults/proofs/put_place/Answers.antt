use Rattle.text.proofs.Pieces.{both}
use Rattle.column_faults.specs.Faults.{place_text}
use Rattle.column_faults.proofs.put_place.Goals as goal

pub returns : goal.returns
unfolding place_text
returns c =
    both c.put_bytes-p.ensures (both c.put_decimal-p.ensures (both c.put_bytes-p-2.ensures (both c.put_decimal-p-2.ensures (both c.put_bytes-p-3.ensures (both c.put_byte-p.ensures c.put_bytes.ensures)))))
