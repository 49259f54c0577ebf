use mathlib.Core.Path.{refl}
use lib.Ieee.{round, units, odd, size, span, climb, of_bits, neg}
use lib.Count.{count_trailing_zeros}
use Rattle.near_earth.specs.Powers.{pow3}
use Rattle.near_earth.proofs.powers.pow3.Goals as goal

pub returns : goal.returns
unfolding pow3 round units odd size span climb count_trailing_zeros of_bits neg
returns c = refl
