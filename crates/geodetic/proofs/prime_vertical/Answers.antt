use lib.Ieee.{round, units, odd, size, span, climb, of_bits, neg}
use lib.Count.{count_trailing_zeros}
use Rattle.geodetic.specs.Geodetic.{prime_vertical}
use Rattle.geodetic.proofs.prime_vertical.Goals as goal

pub returns : goal.returns
unfolding prime_vertical round units odd size span climb count_trailing_zeros of_bits neg
returns c = simp (c.sqrt.ensures, c.eccentricity2.ensures)
