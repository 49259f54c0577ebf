use mathlib.Core.Path.{refl}
use lib.Ieee.{round, units, odd, size, span, climb, of_bits, neg}
use lib.Count.{count_trailing_zeros}
use Rattle.resonance_terms.specs.Dsinit.{half_day}
use Rattle.resonance_terms.proofs.dsinit.is_half_day.Goals as goal

pub returns : goal.returns
unfolding half_day round units odd size span climb count_trailing_zeros of_bits neg
returns c = refl
