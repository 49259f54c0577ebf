use mathlib.Core.Path.{ap}
use Rattle.text.specs.Output.{decimal}
use Rattle.text.proofs.Pieces.{both, same}
use Rattle.refusal_line.specs.Refusal.{place_text}
use Rattle.refusal_line.proofs.put_place.Goals as goal

pub returns : goal.returns
unfolding place_text
returns c =
    both c.put_line_number-p.ensures
    (both c.put_byte-p.ensures (same (ap decimal c.wide.ensures) c.put_decimal.ensures))
