use mathlib.Core.Path.{refl}
use lib.Ieee.{round, units, odd, size, span, climb, of_bits, neg}
use lib.Count.{count_trailing_zeros}
use Rattle.geodetic.specs.Geodetic.{eccentricity2}
use Rattle.geodetic.proofs.eccentricity2.Goals as goal

pub returns : goal.returns
unfolding eccentricity2 round units odd size span climb count_trailing_zeros of_bits neg
returns c = refl
