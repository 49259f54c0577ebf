-- Worked examples: the definitions compute.
use Rattle.std.specs.Prelude.{◌≡◌, refl, true, false, pos, negsuc}
use Rattle.std.specs.Float.{nan, inf, fin, binary64}
use Rattle.std.specs.Float.Ieee.{round, of_bits, neg}
use Rattle.floats.specs.Notation.{dec}
use Rattle.square_root.specs.Root.{isqrt, near_root, units_in, root_of, sqrt_of}

root_of_two : sqrt_of (dec 2 0) ≡ dec 14142135623730951 16
unfolding sqrt_of root_of units_in near_root isqrt round
root_of_two = refl

-- the least positive f64 is 2 ^ -1074
root_of_least : sqrt_of (of_bits binary64 1) ≡ fin false 1 (negsuc 536)
unfolding sqrt_of root_of units_in near_root isqrt round of_bits
root_of_least = refl

root_of_largest : sqrt_of (of_bits binary64 0x7fef_ffff_ffff_ffff) ≡ of_bits binary64 0x5fef_ffff_ffff_ffff
unfolding sqrt_of root_of units_in near_root isqrt round of_bits
root_of_largest = refl

root_of_minus_zero : sqrt_of (fin true 0 (pos 0)) ≡ fin true 0 (pos 0)
unfolding sqrt_of
root_of_minus_zero = refl

root_of_minus_one : sqrt_of (neg (dec 1 0)) ≡ nan
unfolding sqrt_of round neg
root_of_minus_one = refl

root_of_infinity : sqrt_of (inf false) ≡ inf false
unfolding sqrt_of
root_of_infinity = refl
