use mathlib.Core.Path.{ap}
use Rattle.text.specs.Output.{line, signed}
use Rattle.text.proofs.Pieces.{both, same}
use Rattle.text.proofs.Signed.{steady}
use Rattle.listing.proofs.put_signed_line.Goals as goal

pub returns : goal.returns
unfolding line
returns c =
    both c.put_bytes-p.ensures
    (both (same (ap signed (steady _ c.ranges.v)) c.put_signed-p.ensures)
    c.put_byte.ensures)
