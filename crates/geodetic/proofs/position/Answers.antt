use lib.Ieee.{round, units, odd, size, span, climb, of_bits, neg}
use lib.Count.{count_trailing_zeros}
use Rattle.geodetic.specs.Geodetic.{position_of}
use Rattle.geodetic.proofs.position.Goals as goal

pub returns : goal.returns
unfolding position_of round units odd size span climb count_trailing_zeros of_bits neg
returns c = simp (c.eccentricity2-e2.ensures, c.prime_vertical-n.ensures)
