use mathlib.Core.Path.{refl}
use lib.Ieee.{round, units, odd, size, span, climb, of_bits, neg}
use lib.Count.{count_trailing_zeros}
use Rattle.resonance.specs.Place.{next_xli}
use Rattle.resonance.proofs.place.next_xli.Goals as goal

pub returns : goal.returns
unfolding next_xli round units odd size span climb count_trailing_zeros of_bits neg
returns c = refl
