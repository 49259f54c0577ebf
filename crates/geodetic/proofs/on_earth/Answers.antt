use mathlib.Core.Path.{refl}
use lib.Ieee.{round, units, odd, size, span, climb, of_bits, neg}
use lib.Count.{count_trailing_zeros}
use Rattle.geodetic.specs.Geodetic.{on_earth}
use Rattle.geodetic.proofs.on_earth.Goals as goal

pub returns : goal.returns
unfolding on_earth round units odd size span climb count_trailing_zeros of_bits neg
returns c = refl
