use Rattle.text.proofs.Pieces.{both}
use Rattle.reading_faults.specs.Fault.{numbers_text}
use Rattle.reading_faults.proofs.put_numbers.Goals as goal

pub returns : goal.returns
unfolding numbers_text
returns c =
    both c.put_bytes-p.ensures (both c.put_part-p.ensures (both c.put_bytes-p-2.ensures (both c.put_part-p-2.ensures (both c.put_bytes-p-3.ensures (both c.put_marked-p.ensures c.put_marked.ensures)))))
