use mathlib.Core.Path.{refl}
use lib.Ieee.{round, units, odd, size, span, climb, of_bits, neg}
use lib.Count.{count_trailing_zeros}
use Rattle.state.specs.Orientation.{oriented}
use Rattle.state.proofs.orientation.oriented.Goals as goal

pub returns : goal.returns
unfolding oriented round units odd size span climb count_trailing_zeros of_bits neg
returns c = refl
