-- The values of pi, and how they hang together.
use mathlib.Core.Path.{◌≡◌, refl, sym, ◌∙◌}
use mathlib.Core.Bool.{false}
use lib.IntN.{negsuc}
use lib.Ieee.{fin, round, mul, div}
use Rattle.floats.specs.Notation.{◌⊗◌, ◌⊘◌, dec, pi, two_pi, half_pi}

pub pi_is : pi ≡ fin false 884279719003555 (negsuc 47)
unfolding round
pi_is = refl

long_is : dec 314159265358979323846264338327950288 35 ≡ fin false 884279719003555 (negsuc 47)
unfolding round
long_is = refl

-- "Pi is the nearest f64": its further digits change nothing.
pub pi_nearest : pi ≡ dec 314159265358979323846264338327950288 35
pi_nearest = pi_is ∙ sym long_is

-- "two pi its double", and pi/2 its half.
pub two_pi_is : two_pi ≡ fin false 884279719003555 (negsuc 46)
unfolding round
two_pi_is = refl

double_is : dec 2 0 ⊗ pi ≡ fin false 884279719003555 (negsuc 46)
unfolding mul
double_is = refl

pub two_pi_doubles : two_pi ≡ dec 2 0 ⊗ pi
two_pi_doubles = two_pi_is ∙ sym double_is

pub half_pi_is : half_pi ≡ fin false 884279719003555 (negsuc 48)
unfolding round
half_pi_is = refl

half_is : pi ⊘ dec 2 0 ≡ fin false 884279719003555 (negsuc 48)
unfolding div
half_is = refl

pub half_pi_halves : half_pi ≡ pi ⊘ dec 2 0
half_pi_halves = half_pi_is ∙ sym half_is
