use mathlib.Core.Path.{refl}
use lib.Ieee.{round, units, odd, size, span, climb, of_bits, neg}
use lib.Count.{count_trailing_zeros}
use Rattle.passes.specs.Samples.{begin}
use Rattle.passes.proofs.begin.Goals as goal

pub returns : goal.returns
unfolding begin round units odd size span climb count_trailing_zeros of_bits neg
returns c = refl
