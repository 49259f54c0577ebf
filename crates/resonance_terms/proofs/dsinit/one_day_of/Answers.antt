use mathlib.Core.Path.{refl}
use lib.Ieee.{round, units, odd, size, span, climb, of_bits, neg}
use lib.Count.{count_trailing_zeros}
use Rattle.resonance_terms.specs.Dsinit.{one_day_of}
use Rattle.resonance_terms.proofs.dsinit.one_day_of.Goals as goal

pub returns : goal.returns
unfolding one_day_of round units odd size span climb count_trailing_zeros of_bits neg
returns c = refl
