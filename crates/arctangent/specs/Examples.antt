-- Worked examples: the definitions compute.
use Rattle.std.specs.Prelude.{◌≡◌, refl, true, false, pos, negsuc}
use Rattle.std.specs.Float.{fin}
use Rattle.std.specs.Float.Ieee.{round, neg, sub, mul, div, le}
use Rattle.floats.specs.Notation.{dec, finite}
use Rattle.floats.specs.Magnitude.{abs_of}
use Rattle.square_root.specs.Root.{isqrt, near_root, units_in, root_of, sqrt_of}
use Rattle.arctangent.specs.Angle.{halved, series, arctan, quarter, placed, atan2_of}

-- the angle of a point: 0, pi / 2, pi and -pi / 2 on the half axes, and 0 at the origin; minus zero counts as zero
angle_of_right : atan2_of (dec 0 0) (dec 1 0) ≡ dec 0 0
unfolding atan2_of placed quarter arctan series halved abs_of sqrt_of root_of units_in near_root isqrt finite round le sub mul div
angle_of_right = refl

angle_of_up : atan2_of (dec 1 0) (dec 0 0) ≡ fin false 884279719003555 (negsuc 48)
unfolding atan2_of placed quarter arctan series halved abs_of sqrt_of root_of units_in near_root isqrt finite round le sub mul div
angle_of_up = refl

angle_of_left : atan2_of (fin true 0 (pos 0)) (neg (dec 1 0)) ≡ fin false 884279719003555 (negsuc 47)
unfolding atan2_of placed quarter arctan series halved abs_of sqrt_of root_of units_in near_root isqrt finite round le sub mul div
angle_of_left = refl

angle_of_down : atan2_of (neg (dec 1 0)) (dec 0 0) ≡ fin true 884279719003555 (negsuc 48)
unfolding atan2_of placed quarter arctan series halved abs_of sqrt_of root_of units_in near_root isqrt finite round le sub mul div
angle_of_down = refl

angle_of_origin : atan2_of (fin true 0 (pos 0)) (fin true 0 (pos 0)) ≡ dec 0 0
unfolding atan2_of placed quarter arctan series halved abs_of sqrt_of root_of units_in near_root isqrt finite round le sub mul div
angle_of_origin = refl
