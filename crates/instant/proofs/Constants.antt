-- What the code holds as literals is what the papers compute. Assumes nothing.
use mathlib.Core.Path.{◌≡◌, refl}
use mathlib.Core.Bool.{false}
use lib.IntN.{negsuc}
use lib.Ieee.{fin, round, units, odd, size, span, climb, mul, add, sum, div}
use lib.Count.{count_trailing_zeros}
use Rattle.instant.specs.Quantity.{deg2rad}
use Rattle.instant.specs.Greenwich.{rate}

-- 3164400184.812866
pub rate_is : rate ≡ fin false 25922766313987 (negsuc 12)
unfolding rate round units odd size span climb count_trailing_zeros mul add sum
rate_is = refl

-- 0.017453292519943295
pub deg2rad_is : deg2rad ≡ fin false 5030569068109113 (negsuc 57)
unfolding deg2rad round units odd size span climb count_trailing_zeros div
deg2rad_is = refl
