use mathlib.Core.Path.{refl}
use lib.Ieee.{round, units, odd, size, span, climb, of_bits, neg}
use lib.Count.{count_trailing_zeros}
use Rattle.resonance.specs.Dots.{phases_of}
use Rattle.resonance.proofs.dots.phases_of.Goals as goal

pub returns : goal.returns
unfolding phases_of round units odd size span climb count_trailing_zeros of_bits neg
returns c = refl
