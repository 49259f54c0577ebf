-- "For positive normal input, the nearest f64, shown by comparing cubes of whole numbers (a tie cannot occur for a 53-bit input). Other inputs still give NaN." Definitions only.
-- A positive normal x is m * 2 ^ field / 2 ^ 1075 for an m of 53 binary digits. With field = 3 * k + r its root is ∛N * 2 ^ k / 2 ^ 393, where N is m * 2 ^ r * 2 ^ 104
-- and has 157 to 159 binary digits. ∛N then has 53 before the point, all that the format keeps, and is no whole number and a half: no tie exists (proofs/Theorems).
use Rattle.std.specs.Prelude.{ℕ, zero, suc, ◌+◌, ◌*◌, ◌/◌, ◌%◌, ◌^◌, Bool, false, cond, ◌&&◌, negsuc, leb, ltb, Float}
use Rattle.std.specs.Float.{nan, inf, fin, binary64}
use Rattle.std.specs.Float.Ieee.{odd, to_bits, lt, le}

abbrev pub cube : ℕ → ℕ
cube n = n * n * n

-- the whole part of the cube root of an n below 8 ^ k, digit by digit
unfoldable pub icbrt : ℕ → ℕ → ℕ
icbrt zero n = 0
icbrt (suc k) n = let r = 2 * icbrt k (n / 8) in cond (leb (cube (r + 1)) n) (r + 1) r

-- the whole number nearest to the cube root of an n below 8 ^ 53: ∛n is above r + 1/2 exactly where 8 * n is above the cube of 2 * r + 1
unfoldable pub near_cube : ℕ → ℕ
near_cube n = let r = icbrt 53 n in cond (ltb (cube (2 * r + 1)) (8 * n)) (r + 1) r

-- a positive normal x's exponent field, which is 1023 more than its exponent, and its 53 digits
abbrev pub field : Float → ℕ
field x = to_bits binary64 x / 2 ^ 52

abbrev pub digits : Float → ℕ
digits x = to_bits binary64 x % 2 ^ 52 + 2 ^ 52

-- with q the whole number nearest to ∛N the root is q * 2 ^ (k + 681) / 2 ^ 1074
unfoldable pub cbrt_normal : Float → Float
cbrt_normal x = odd 53 false (near_cube (digits x * 2 ^ (field x % 3) * 2 ^ 104)) (field x / 3 + 681) 1074

-- from 2 ^ -1022 on, and finite
unfoldable pub normal : Float → Bool
normal x = le (fin false 1 (negsuc 1021)) x && lt x (inf false)

unfoldable pub cbrt_of : Float → Float
cbrt_of x = cond (normal x) (cbrt_normal x) nan
