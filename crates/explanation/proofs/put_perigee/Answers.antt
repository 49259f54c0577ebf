use mathlib.Core.Path.{ap}
use Rattle.text.proofs.Pieces.{both, same}
use Rattle.decimals.specs.Fixed.{fixed_text}
use Rattle.explanation.specs.Explained.{perigee_text}
use Rattle.explanation.proofs.put_perigee.Goals as goal

pub returns : goal.returns
unfolding perigee_text
returns c =
    both c.put_bytes-p.ensures
    (both (same (ap (fixed_text 1) c.perigee_depth-depth.ensures) c.put_fixed-p.ensures) c.put_bytes.ensures)
