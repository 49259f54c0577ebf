use mathlib.Core.Path.{refl}
use lib.Ieee.{round, units, odd, size, span, climb, of_bits, div}
use lib.Count.{count_trailing_zeros}
use Rattle.instant.specs.Quantity.{deg2rad, radians_of}
use Rattle.instant.proofs.to_radians.Goals as goal

pub returns : goal.returns
unfolding radians_of deg2rad round units odd size span climb count_trailing_zeros of_bits div
returns c = refl
