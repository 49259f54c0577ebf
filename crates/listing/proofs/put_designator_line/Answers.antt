use Rattle.text.specs.Output.{line}
use Rattle.text.proofs.Pieces.{both}
use Rattle.listing.proofs.put_designator_line.Goals as goal

pub returns : goal.returns
unfolding line
returns c = both c.put_bytes-p.ensures (both c.put_designator-p.ensures c.put_byte.ensures)
