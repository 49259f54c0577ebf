use lib.Ieee.{round, units, odd, size, span, climb, of_bits, neg}
use lib.Count.{count_trailing_zeros}
use Rattle.sgp4.specs.DeepSpace.{inclined}
use mathlib.Core.Path.{refl}
use Rattle.sgp4.proofs.deep_space.inclined.Goals as goal

pub returns : goal.returns
unfolding inclined round units odd size span climb count_trailing_zeros of_bits neg
returns c = refl
