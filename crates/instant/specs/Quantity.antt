-- Quantities converted, document 01, "Numbers the model rests on". Definitions only.
use Rattle.std.specs.Prelude.{ℕ, suc, ◌+◌, ◌-◌, ◌*◌, ◌^◌, true, false, cond, ◌&&◌, ℤ, pos, negsuc, nat_abs, leb, Float}
use Rattle.std.specs.Float.{nan, binary64}
use Rattle.std.specs.Float.Ieee.{round}
use Rattle.elementary.specs.Notation.{◌⊗◌, ◌⊘◌, dec, pi}

-- the exact fraction z * a / b, rounded once
unfoldable pub over : ℤ → ℕ → ℕ → Float
over (pos n) a b = round binary64 false (n * a) b
over (negsuc n) a b = round binary64 true (suc n * a) b

-- "Minutes are microseconds divided by 60,000,000, rounded once": every i64, also where it is no f64
unfoldable pub minutes_of : ℤ → Float
minutes_of z = over z 1 60000000

-- "A field is its whole number divided by its power of ten, rounded once". No field has more than 15 places
unfoldable pub decimal_of : ℕ → ℕ → Float
decimal_of n places = cond (leb places 15) (dec n places) nan

-- The exponent fields: mantissa times 10 ^ (exponent - 5), rounded once. Five digits and one digit, as the layout has them; NaN for any other pair
unfoldable pub powered_of : ℤ → ℤ → Float
powered_of m (pos e) = over m (10 ^ (e - 5)) (10 ^ (5 - e))
powered_of m (negsuc e) = over m 1 (10 ^ (6 + e))

unfoldable pub scaled_of : ℤ → ℤ → Float
scaled_of m e = cond (leb (nat_abs m) 99999 && leb (nat_abs e) 9) (powered_of m e) nan

-- "degrees are then multiplied by pi/180": 002's deg2rad
unfoldable pub deg2rad : Float
deg2rad = pi ⊘ dec 180 0

unfoldable pub radians_of : Float → Float
radians_of x = x ⊗ deg2rad
