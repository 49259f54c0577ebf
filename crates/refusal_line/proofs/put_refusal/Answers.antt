use mathlib.Core.Path.{ap}
use Rattle.text.specs.Output.{decimal}
use Rattle.text.proofs.Pieces.{both, same}
use Rattle.refusal_line.specs.Refusal.{refusal_text}
use Rattle.refusal_line.proofs.put_refusal.Goals as goal

pub returns : goal.returns
unfolding refusal_text
returns c =
    both c.put_bytes-p.ensures
    (both (same (ap decimal c.number-number.ensures) c.put_decimal-p.ensures)
    (both c.put_values-p.ensures c.put_byte.ensures))
