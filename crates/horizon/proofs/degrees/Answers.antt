use mathlib.Core.Path.{refl}
use lib.Ieee.{round, units, odd, size, span, climb, of_bits, neg, div}
use lib.Count.{count_trailing_zeros}
use Rattle.horizon.proofs.degrees.Goals as goal

pub returns : goal.returns
unfolding round units odd size span climb count_trailing_zeros of_bits neg div
returns c = refl
