use mathlib.Core.Path.{refl}
use lib.Ieee.{round, units, odd, size, span, climb, of_bits, neg}
use lib.Count.{count_trailing_zeros}
use Rattle.state.specs.Kept.{mean_from}
use Rattle.state.proofs.secular.mean.Goals as goal

pub returns : goal.returns
unfolding mean_from round units odd size span climb count_trailing_zeros of_bits neg
returns c = refl
