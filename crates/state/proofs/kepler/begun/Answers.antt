use mathlib.Core.Path.{refl}
use lib.Ieee.{round, units, odd, size, span, climb, of_bits, neg}
use lib.Count.{count_trailing_zeros}
use Rattle.state.specs.Kepler.{begun}
use Rattle.state.proofs.kepler.begun.Goals as goal

pub returns : goal.returns
unfolding begun round units odd size span climb count_trailing_zeros of_bits neg
returns c = refl
