use mathlib.Core.Path.{refl}
use lib.Ieee.{round, units, odd, size, span, climb, of_bits, neg}
use lib.Count.{count_trailing_zeros}
use Rattle.state.specs.Ahead.{in_plane}
use Rattle.state.proofs.periodics.in_plane.Goals as goal

pub returns : goal.returns
unfolding in_plane round units odd size span climb count_trailing_zeros of_bits neg
returns c = refl
