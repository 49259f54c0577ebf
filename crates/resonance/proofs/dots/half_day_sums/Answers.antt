use mathlib.Core.Path.{refl}
use lib.Ieee.{round, units, odd, size, span, climb, of_bits, neg}
use lib.Count.{count_trailing_zeros}
use Rattle.resonance.specs.Dots.{half_day_sums}
use Rattle.resonance.proofs.dots.half_day_sums.Goals as goal

pub returns : goal.returns
unfolding half_day_sums round units odd size span climb count_trailing_zeros of_bits neg
returns c = refl
