use mathlib.Core.Path.{refl}
use lib.Ieee.{round, units, odd, size, span, climb, of_bits, neg}
use lib.Count.{count_trailing_zeros}
use Rattle.opening.specs.DeepSpace.{orbit}
use Rattle.opening.proofs.deep_space.orbit.Goals as goal

pub returns : goal.returns
unfolding orbit round units odd size span climb count_trailing_zeros of_bits neg
returns c = refl
