use mathlib.Core.Path.{refl}
use lib.Ieee.{round, units, odd, size, span, climb, of_bits, neg}
use lib.Count.{count_trailing_zeros}
use Rattle.resonance_terms.specs.Dsinit.{half_day_sum}
use Rattle.resonance_terms.proofs.dsinit.half_day_sum.Goals as goal

pub returns : goal.returns
unfolding half_day_sum round units odd size span climb count_trailing_zeros of_bits neg
returns c = refl
