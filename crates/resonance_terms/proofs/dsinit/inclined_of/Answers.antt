use mathlib.Core.Path.{refl}
use lib.Ieee.{round, units, odd, size, span, climb, of_bits, neg}
use lib.Count.{count_trailing_zeros}
use Rattle.resonance_terms.specs.Dsinit.{inclined_of}
use Rattle.resonance_terms.proofs.dsinit.inclined_of.Goals as goal

pub returns : goal.returns
unfolding inclined_of round units odd size span climb count_trailing_zeros of_bits neg
returns c = refl
