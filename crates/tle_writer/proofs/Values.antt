-- A field that is written is read back.
use Prim.Native.Nat.{ℕ, zero, suc, ◌+◌, ◌*◌, ◌/◌, ◌%◌, ◌<◌, ◌≤◌, ◌^◌}
use mathlib.Core.Path.{◌≡◌, refl, ap, sym, ◌∙◌}
use mathlib.Core.List.{List, [], ◌∷◌, ◌++◌}
use mathlib.Core.Bool.{Bool, true, false, cond, not, ◌&&◌, ◌||◌}
use native.Mathlib.Omega.{arith}
use native.Mathlib.Nat.{pow-suc}
use borrow.Author.Tests.{eqb-true, le-leb, leb-true, leb-false, ltb-true}
use lib.Dec.{eqb, leb, ltb}
use lib.IntN.{ℤ, pos, negsuc, nat_abs}
use Rattle.columns.specs.Sum.{digit_of}
use Rattle.tle.specs.Number.{value_on, minus, signed}
use Rattle.tle.specs.Legal.{scaled_fits}
use Rattle.tle.specs.Read.{class_of, year_of, letter}
use Rattle.tle.specs.declared.Class.{Class}
use Rattle.tle.specs.declared.Class.TheVariants.{Unclassified, Classified, Secret}
use Rattle.tle.specs.declared.Scaled.{Scaled}
use Rattle.tle_writer.specs.Field.{place, lead, digits, right, sign, exponent_sign}
use Rattle.tle_writer.proofs.Facts.{both}

on_append : (a : ℕ) (xs ys : List ℕ) → value_on a (xs ++ ys) ≡ value_on (value_on a xs) ys
unfolding value_on
on_append a [] ys = refl
on_append a (x ∷ xs) ys = on_append (a * 10 + digit_of x) xs ys

-- the digit that a byte 48 + d shows
digit_of_lem : (d : ℕ) → d < 10 → digit_of (48 + d) ≡ d
unfolding digit_of
digit_of_lem d h = rw (le-leb 48 (48 + d) (omega arith), le-leb (48 + d) 57 (omega arith)) (omega arith)

pub place_value : (t : Bool) (z n : ℕ) → digit_of z ≡ 0 → eqb n 0 ≡ t → digit_of (place z n) ≡ n % 10
unfolding place
place_value true z n hz e = rw e (hz ∙ omega (arith, eqb-true n 0 e))
place_value false z n hz e = rw e (digit_of_lem (n % 10) (omega arith))

shorter : (w n : ℕ) → n < 10 ^ suc w → n / 10 < 10 ^ w
shorter w n h = omega (arith, rw pow-suc at h)

lead_value : (z w n : ℕ) → digit_of z ≡ 0 → n < 10 ^ w → value_on 0 (lead z w n) ≡ n
unfolding lead value_on
lead_value z zero n hz h = omega arith
lead_value z (suc w) n hz h =
    on_append 0 (lead z w (n / 10)) (place z n ∷ [])
    ∙ rw (lead_value z w (n / 10) hz (shorter w n h), place_value (eqb n 0) z n hz refl) (omega arith)

pub digits_value : (w n : ℕ) → n < 10 ^ w → value_on 0 (digits w n) ≡ n
unfolding digit_of
digits_value w n h = lead_value 48 w n refl h

pub right_value : (w n : ℕ) → n < 10 ^ suc w → value_on 0 (right w n) ≡ n
unfolding value_on lead digit_of
right_value w n h =
    on_append 0 (lead 32 w (n / 10)) (lead 48 1 (n % 10))
    ∙ rw (lead_value 32 w (n / 10) refl (shorter w n h), place_value (eqb (n % 10) 0) 48 (n % 10) refl refl) (omega arith)

-- a number with a point, from its two parts
pub degrees_value : (n : ℕ) → n < 10 ^ 7 → value_on 0 (right 2 (n / 10 ^ 4)) * 10 ^ 4 + value_on 0 (digits 4 (n % 10 ^ 4)) ≡ n
degrees_value n h = rw (right_value 2 (n / 10 ^ 4) (omega arith), digits_value 4 (n % 10 ^ 4) (omega arith)) (omega arith)

pub motion_value : (n : ℕ) → n < 10 ^ 10 → value_on 0 (right 1 (n / 10 ^ 8)) * 10 ^ 8 + value_on 0 (digits 8 (n % 10 ^ 8)) ≡ n
motion_value n h = rw (right_value 1 (n / 10 ^ 8) (omega arith), digits_value 8 (n % 10 ^ 8) (omega arith)) (omega arith)

pub day_value : (n : ℕ) → n < 10 ^ 11 → value_on 0 (digits 3 (n / 10 ^ 8)) * 10 ^ 8 + value_on 0 (digits 8 (n % 10 ^ 8)) ≡ n
day_value n h = rw (digits_value 3 (n / 10 ^ 8) (omega arith), digits_value 8 (n % 10 ^ 8) (omega arith)) (omega arith)

-- two digits of a year
year_split : (t : Bool) (y : ℕ) → 1957 ≤ y → y ≤ 2056 → leb 57 (y % 100) ≡ t → year_of (y % 100) ≡ y
unfolding year_of
year_split true y a b e = rw e (omega (arith, leb-true 57 (y % 100) e))
year_split false y a b e = rw e (omega (arith, leb-false 57 (y % 100) e))

pub year_value : (y : ℕ) → 1957 ≤ y → y ≤ 2056 → year_of (value_on 0 (digits 2 (y % 100))) ≡ y
year_value y a b = ap year_of (digits_value 2 (y % 100) (omega arith)) ∙ year_split (leb 57 (y % 100)) y a b refl

pub class_value : (c : Class) → class_of (letter c) ≡ c
unfolding class_of letter
class_value Unclassified = refl
class_value Classified = refl
class_value Secret = refl

-- a sign and the distance from 0
pub signed_value : (z : ℤ) → signed (eqb (sign z) 45) (nat_abs z) ≡ z
unfolding sign signed minus
signed_value (pos n) = refl
signed_value (negsuc n) = refl

pub written_value : (w : ℕ) (z : ℤ) → nat_abs z < 10 ^ w → signed (eqb (sign z) 45) (value_on 0 (digits w (nat_abs z))) ≡ z
written_value w z h = rw (digits_value w (nat_abs z) h) (signed_value z)

exponent_sign_lem : (z : ℤ) → signed (eqb (exponent_sign z) 45) (nat_abs z) ≡ z
unfolding exponent_sign signed minus
exponent_sign_lem (pos zero) = refl
exponent_sign_lem (pos (suc n)) = refl
exponent_sign_lem (negsuc n) = refl

-- 0 only
no_distance : (z : ℤ) → nat_abs z ≡ 0 → pos 0 ≡ z
no_distance (pos n) h = ap pos (sym h)
no_distance (negsuc n) h = absurd (omega arith)

module _ (s : Scaled) (h : scaled_fits s ≡ true) where
  parts : (ltb (nat_abs s.mantissa) 100000 && ltb (nat_abs s.exponent) 10 ≡ true) × ((not (eqb (nat_abs s.mantissa) 0) || eqb (nat_abs s.exponent) 0) ≡ true)
  unfolding scaled_fits
  parts = both (ltb (nat_abs s.mantissa) 100000 && ltb (nat_abs s.exponent) 10) (not (eqb (nat_abs s.mantissa) 0) || eqb (nat_abs s.exponent) 0) h

  pub five : nat_abs s.mantissa < 10 ^ 5
  five = ltb-true (nat_abs s.mantissa) 100000 (both (ltb (nat_abs s.mantissa) 100000) (ltb (nat_abs s.exponent) 10) parts.0).0

  one : nat_abs s.exponent < 10 ^ 1
  one = ltb-true (nat_abs s.exponent) 10 (both (ltb (nat_abs s.mantissa) 100000) (ltb (nat_abs s.exponent) 10) parts.0).1

  exponent : (t : Bool) → eqb (nat_abs s.mantissa) 0 ≡ t → cond t (pos 0) (signed (eqb (exponent_sign s.exponent) 45) (nat_abs s.exponent)) ≡ s.exponent
  exponent true e = no_distance s.exponent (eqb-true (nat_abs s.exponent) 0 (rw e at parts.1))
  exponent false e = exponent_sign_lem s.exponent

  pub mantissa_value : signed (eqb (sign s.mantissa) 45) (value_on 0 (digits 5 (nat_abs s.mantissa))) ≡ s.mantissa
  mantissa_value = written_value 5 s.mantissa five

  pub exponent_value :
      cond (eqb (value_on 0 (digits 5 (nat_abs s.mantissa))) 0) (pos 0)
      (signed (eqb (exponent_sign s.exponent) 45) (value_on 0 (digits 1 (nat_abs s.exponent))))
      ≡ s.exponent
  exponent_value = rw (digits_value 5 (nat_abs s.mantissa) five, digits_value 1 (nat_abs s.exponent) one) (exponent (eqb (nat_abs s.mantissa) 0) refl)
