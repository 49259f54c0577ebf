use mathlib.Core.Path.{refl}
use lib.Ieee.{round, units, odd, size, span, climb, of_bits, neg}
use lib.Count.{count_trailing_zeros}
use Rattle.resonance.specs.Dspace.{secular_update}
use Rattle.resonance.proofs.dspace.secular_update.Goals as goal

pub returns : goal.returns
unfolding secular_update round units odd size span climb count_trailing_zeros of_bits neg
returns c = refl
