use mathlib.Core.Path.{refl}
use lib.Ieee.{round, units, odd, size, span, climb, of_bits, neg}
use lib.Count.{count_trailing_zeros}
use Rattle.opening.specs.DeepSpace.{unchanged}
use Rattle.opening.specs.DeepSpace.{at_epoch}
use Rattle.opening.proofs.deep_space.at_epoch.Goals as goal

pub returns : goal.returns
unfolding at_epoch unchanged round units odd size span climb count_trailing_zeros of_bits neg
returns c = refl
