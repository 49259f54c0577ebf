use mathlib.Core.Path.{refl}
use lib.Ieee.{round, units, odd, size, span, climb, of_bits, neg}
use lib.Count.{count_trailing_zeros}
use Rattle.state.specs.Periodics.{latus}
use Rattle.state.proofs.periodics.latus.Goals as goal

pub returns : goal.returns
unfolding latus round units odd size span climb count_trailing_zeros of_bits neg
returns c = refl
