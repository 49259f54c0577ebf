use lib.Ieee.{round, units, odd, size, span, climb, of_bits, neg}
use lib.Count.{count_trailing_zeros}
use Rattle.sgp4.specs.DeepSpace.{updated}
use mathlib.Core.Path.{refl}
use Rattle.sgp4.proofs.deep_space.updated.Goals as goal

pub returns : goal.returns
unfolding updated round units odd size span climb count_trailing_zeros of_bits neg
returns c = refl
