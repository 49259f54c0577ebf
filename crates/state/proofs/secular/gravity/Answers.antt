use mathlib.Core.Path.{refl}
use lib.Ieee.{round, units, odd, size, span, climb, of_bits, neg}
use lib.Count.{count_trailing_zeros}
use Rattle.state.specs.Secular.{gravity}
use Rattle.state.proofs.secular.gravity.Goals as goal

pub returns : goal.returns
unfolding gravity round units odd size span climb count_trailing_zeros of_bits neg
returns c = refl
