use mathlib.Core.Path.{refl}
use lib.Ieee.{round, units, odd, size, span, climb, of_bits, neg}
use lib.Count.{count_trailing_zeros}
use Rattle.periodics.specs.Dpper.{direct_of}
use Rattle.periodics.proofs.dpper.direct.Goals as goal

pub returns : goal.returns
unfolding direct_of round units odd size span climb count_trailing_zeros of_bits neg
returns c = refl
