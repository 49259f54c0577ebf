use lib.Ieee.{round, units, odd, size, span, climb, of_bits, neg}
use lib.Count.{count_trailing_zeros}
use Rattle.near_earth.specs.Sgp4init.{terms}
use Rattle.near_earth.proofs.sgp4init.terms.Goals as goal

pub returns : goal.returns
unfolding terms round units odd size span climb count_trailing_zeros of_bits neg
returns c = simp (c.aycof-aycof.ensures, c.xlcof-xlcof.ensures)
