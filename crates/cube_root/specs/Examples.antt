-- Worked examples: the definitions compute.
use Rattle.std.specs.Prelude.{◌≡◌, refl, true, false, pos}
use Rattle.std.specs.Float.{nan, inf, fin, binary64}
use Rattle.std.specs.Float.Ieee.{round, of_bits, neg, mul, le, to_bits}
use Rattle.floats.specs.Notation.{dec}
use Rattle.square_root.specs.Root.{isqrt, near_root, units_in, root_of, sqrt_of}
use Rattle.cube_root.specs.Cube.{icbrt, near_cube, cbrt_normal, normal, cbrt_of}
use Rattle.cube_root.specs.Power.{pow23, pow35}

cube_root_of_eight : cbrt_of (dec 8 0) ≡ dec 2 0
unfolding cbrt_of cbrt_normal normal le near_cube icbrt round of_bits to_bits
cube_root_of_eight = refl

cube_root_of_two : cbrt_of (dec 2 0) ≡ dec 12599210498948732 16
unfolding cbrt_of cbrt_normal normal le near_cube icbrt round of_bits to_bits
cube_root_of_two = refl

-- the one place where a root is rounded up to the next power of 2: below each 8 ^ k
cube_root_below_eight : cbrt_of (of_bits binary64 0x401f_ffff_ffff_ffff) ≡ dec 2 0
unfolding cbrt_of cbrt_normal normal le near_cube icbrt round of_bits to_bits
cube_root_below_eight = refl

-- the least normal number, 2 ^ -1022, and the largest f64
cube_root_of_least : cbrt_of (of_bits binary64 0x0010_0000_0000_0000) ≡ of_bits binary64 0x2aa4_28a2_f98d_728b
unfolding cbrt_of cbrt_normal normal le near_cube icbrt round of_bits to_bits
cube_root_of_least = refl

cube_root_of_largest : cbrt_of (of_bits binary64 0x7fef_ffff_ffff_ffff) ≡ of_bits binary64 0x5544_28a2_f98d_728b
unfolding cbrt_of cbrt_normal normal le near_cube icbrt round of_bits to_bits
cube_root_of_largest = refl

-- the largest subnormal number
cube_root_of_subnormal : cbrt_of (of_bits binary64 0x000f_ffff_ffff_ffff) ≡ nan
unfolding cbrt_of cbrt_normal normal le near_cube icbrt round of_bits to_bits
cube_root_of_subnormal = refl

cube_root_of_zero : cbrt_of (fin false 0 (pos 0)) ≡ nan
unfolding cbrt_of normal le
cube_root_of_zero = refl

cube_root_of_minus_eight : cbrt_of (neg (dec 8 0)) ≡ nan
unfolding cbrt_of normal le round neg
cube_root_of_minus_eight = refl

cube_root_of_infinity : cbrt_of (inf false) ≡ nan
unfolding cbrt_of normal le
cube_root_of_infinity = refl

cube_root_of_nan : cbrt_of nan ≡ nan
unfolding cbrt_of normal le
cube_root_of_nan = refl

two_thirds_of_eight : pow23 (dec 8 0) ≡ dec 4 0
unfolding pow23 cbrt_of cbrt_normal normal le near_cube icbrt round of_bits to_bits mul
two_thirds_of_eight = refl

seven_halves_of_four : pow35 (dec 4 0) ≡ dec 128 0
unfolding pow35 sqrt_of root_of units_in near_root isqrt round mul
seven_halves_of_four = refl
