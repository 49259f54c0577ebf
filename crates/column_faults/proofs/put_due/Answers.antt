use mathlib.Core.Path.{ap}
use Rattle.text.specs.Output.{decimal}
use Rattle.text.proofs.Pieces.{both, same}
use Rattle.column_faults.specs.Sums.{due_text}
use Rattle.column_faults.proofs.put_due.Goals as goal

pub returns : goal.returns
unfolding due_text
returns c =
    both c.put_bytes-p.ensures
    (both (same (ap decimal c.checksum-due.ensures) c.put_decimal-p.ensures)
    (both c.put_bytes-p-2.ensures
    (both (same (ap decimal c.digit_sum-digits.ensures) c.put_decimal-p-2.ensures)
    (both c.put_bytes-p-3.ensures (both (same (ap decimal c.minus_count-minus.ensures) c.put_decimal-p-3.ensures) c.put_bytes.ensures)))))
