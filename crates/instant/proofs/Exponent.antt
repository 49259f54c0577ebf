-- The exponent fields, by the distance of each part from 0. Assumes nothing.
use mathlib.Core.Path.{◌≡◌, refl, sym, ap, ◌∙◌}
use mathlib.Core.Bool.{true, false}
use Prim.Native.Nat.{ℕ, suc, ◌+◌, ◌-◌, ◌*◌, ◌^◌, ◌≤◌, ◌<◌}
use native.Mathlib.Nat.{mul-one, pow-le-pow_right, zero-lt-suc, mul-le-mul}
use native.Mathlib.Omega.{arith}
use borrow.Author.Tests.{le-leb}
use lib.IntN.{ℤ, pos, negsuc, nat_abs}
use lib.Ieee.{binary64, neg, round}
use Rattle.instant.specs.Quantity.{over, powered_of, scaled_of}
use Rattle.instant.proofs.Signed.{back}
use Rattle.instant.proofs.Long.{neg_round}

-- ---- the exponent below 0, from 0 to 5, above 5
pub below : (m : ℕ) (z : ℤ) → back z ≡ true → round binary64 false m (10 ^ (5 + nat_abs z)) ≡ powered_of (pos m) z
unfolding powered_of over
below m (pos e) b = cc
below m (negsuc e) b =
    let k : 5 + suc e ≡ 6 + e = omega arith in
    ap (λ (x : ℕ). round binary64 false m (10 ^ x)) k ∙ ap (λ (x : ℕ). round binary64 false x (10 ^ (6 + e))) (sym (mul-one m))

pub within : (m : ℕ) (z : ℤ) → back z ≡ false → nat_abs z ≤ 5 → round binary64 false m (10 ^ (5 - nat_abs z)) ≡ powered_of (pos m) z
unfolding powered_of over
within m (pos e) b h =
    let k : 0 ≡ e - 5 = omega arith in
    ap (λ (x : ℕ). round binary64 false x (10 ^ (5 - e))) (sym (mul-one m)) ∙ ap (λ (x : ℕ). round binary64 false (m * 10 ^ x) (10 ^ (5 - e))) k
within m (negsuc e) b h = cc

pub beyond : (m : ℕ) (z : ℤ) → back z ≡ false → 5 < nat_abs z → round binary64 false (m * 10 ^ (nat_abs z - 5)) 1 ≡ powered_of (pos m) z
unfolding powered_of over
beyond m (pos e) b h =
    let k : 0 ≡ 5 - e = omega arith in
    ap (λ (x : ℕ). round binary64 false (m * 10 ^ (e - 5)) (10 ^ x)) k
beyond m (negsuc e) b h = cc

-- such a product has nine digits at most
pub nine_digits : (m k : ℕ) → m ≤ 99999 → k ≤ 4 → m * 10 ^ k ≤ 999990000
nine_digits m k h l = mul-le-mul {n₁ = m} {m₁ = 10 ^ k} {n₂ = 99999} {m₂ = 10000} h (pow-le-pow_right {n = 10} (zero-lt-suc 9) {i = k} {j = 4} l)

-- ---- the mantissa's sign
pub minus : (z e : ℤ) → back z ≡ true → neg (powered_of (pos (nat_abs z)) e) ≡ powered_of z e
unfolding powered_of over
minus (pos n) e b = cc
minus (negsuc n) (pos e) b = neg_round (suc n * 10 ^ (e - 5)) (10 ^ (5 - e))
minus (negsuc n) (negsuc e) b = neg_round (suc n * 1) (10 ^ (6 + e))

pub plus : (z e : ℤ) → back z ≡ false → powered_of (pos (nat_abs z)) e ≡ powered_of z e
plus (pos n) e b = refl
plus (negsuc n) e b = cc

-- ---- five digits and one
pub in_range_lem : (m e : ℤ) → nat_abs m ≤ 99999 → nat_abs e ≤ 9 → powered_of m e ≡ scaled_of m e
unfolding scaled_of
in_range_lem m e h g = simp (le-leb (nat_abs m) 99999 h, le-leb (nat_abs e) 9 g)
