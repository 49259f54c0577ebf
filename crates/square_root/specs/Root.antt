-- "Square root: the nearest f64, ties to even, stated over whole numbers; a negative or NaN gives NaN, a zero or plus infinity gives itself." Definitions only.
-- A positive f64 is n / 2 ^ 1074 for a whole n. Its root is √N * 2 ^ j / 2 ^ 590, where N is n * 2 ^ 106 / 4 ^ j and j is chosen so that N has 105 or 106
-- binary digits. √N then has 53 before the point, all that the format keeps, and is no whole number and a half: no tie exists (`sqrt_nearest` of proofs/Theorems).
use Rattle.std.specs.Prelude.{ℕ, zero, suc, ◌+◌, ◌-◌, ◌*◌, ◌/◌, ◌^◌, Bool, true, false, cond, ℤ, leb, ltb, eqb, Float}
use Rattle.std.specs.Float.{nan, inf, fin}
use Rattle.std.specs.Float.Ieee.{up, down, size, odd}

-- the whole part of the square root of an n below 4 ^ k, digit by digit
unfoldable pub isqrt : ℕ → ℕ → ℕ
isqrt zero n = 0
isqrt (suc k) n = let r = 2 * isqrt k (n / 4) in cond (leb ((r + 1) * (r + 1)) n) (r + 1) r

-- the whole number nearest to the square root of an n below 4 ^ 53: √n is above r + 1/2 exactly where n is above r * r + r
unfoldable pub near_root : ℕ → ℕ
near_root n = let r = isqrt 53 n in cond (ltb r (n - r * r)) (r + 1) r

-- the magnitude of m * 2 ^ e in units of 2 ^ -1074
unfoldable pub units_in : ℕ → ℤ → ℕ
units_in m e = m * up e * 2 ^ 1074 / down e

-- the root of n / 2 ^ 1074: with q the whole number nearest to √N it is q * 2 ^ (j + 484) / 2 ^ 1074
unfoldable pub root_of : ℕ → Float
root_of n = let j = (size n + 1) / 2 in odd 53 false (near_root (n * 2 ^ 106 / 4 ^ j)) (j + 484) 1074

unfoldable pub sqrt_of : Float → Float
sqrt_of nan = nan
sqrt_of (inf s) = cond s nan (inf s)
sqrt_of (fin s m e) = cond (eqb m 0) (fin s m e) (cond s nan (root_of (units_in m e)))
