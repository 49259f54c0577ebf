use mathlib.Core.Path.{refl}
use lib.Ieee.{round, units, odd, size, span, climb, of_bits, neg}
use lib.Count.{count_trailing_zeros}
use Rattle.state.specs.Periodics.{negative_latus}
use Rattle.state.proofs.periodics.negative_latus.Goals as goal

pub returns : goal.returns
unfolding negative_latus round units odd size span climb count_trailing_zeros of_bits neg
returns c = refl
