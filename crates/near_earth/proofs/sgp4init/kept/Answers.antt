use mathlib.Core.Path.{refl}
use lib.Ieee.{round, units, odd, size, span, climb, of_bits, neg}
use lib.Count.{count_trailing_zeros}
use Rattle.near_earth.specs.Kept.{kept}
use Rattle.near_earth.proofs.sgp4init.kept.Goals as goal

pub returns : goal.returns
unfolding kept round units odd size span climb count_trailing_zeros of_bits neg
returns c = refl
