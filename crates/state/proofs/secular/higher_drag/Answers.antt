use mathlib.Core.Path.{refl}
use lib.Ieee.{round, units, odd, size, span, climb, of_bits, neg}
use lib.Count.{count_trailing_zeros}
use Rattle.state.specs.Secular.{higher_drag}
use Rattle.state.proofs.secular.higher_drag.Goals as goal

pub returns : goal.returns
unfolding higher_drag round units odd size span climb count_trailing_zeros of_bits neg
returns c = refl
