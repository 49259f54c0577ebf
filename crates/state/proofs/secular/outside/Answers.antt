use mathlib.Core.Path.{refl}
use lib.Ieee.{round, units, odd, size, span, climb, of_bits, neg}
use lib.Count.{count_trailing_zeros}
use Rattle.state.specs.Secular.{outside}
use Rattle.state.proofs.secular.outside.Goals as goal

pub returns : goal.returns
unfolding outside round units odd size span climb count_trailing_zeros of_bits neg
returns c = refl
