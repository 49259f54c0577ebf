use lib.Ieee.{round, units, odd, size, span, climb, of_bits, neg}
use lib.Count.{count_trailing_zeros}
use Rattle.geodetic.specs.Geodetic.{placed}
use Rattle.geodetic.proofs.placed.Goals as goal

pub returns : goal.returns
unfolding placed round units odd size span climb count_trailing_zeros of_bits neg
returns c = simp c.position-position.ensures
