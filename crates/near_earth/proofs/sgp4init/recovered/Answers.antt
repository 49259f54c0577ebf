use mathlib.Core.Path.{refl}
use lib.Ieee.{round, units, odd, size, span, climb, of_bits, neg}
use lib.Count.{count_trailing_zeros}
use Rattle.near_earth.specs.Sgp4init.{recovered}
use Rattle.near_earth.proofs.sgp4init.recovered.Goals as goal

pub returns : goal.returns
unfolding recovered round units odd size span climb count_trailing_zeros of_bits neg
returns c = refl
