-- The bit patterns of f64 that are positive and finite, and the numbers that they stand for. Assumes nothing.
use mathlib.Core.Path.{◌≡◌, refl, sym, ap, ◌∙◌, subst}
use Prim.Native.Nat.{ℕ, zero, suc, ◌+◌, ◌-◌, ◌*◌, ◌/◌, ◌%◌, ◌^◌, ◌≤◌, ◌<◌}
use native.Mathlib.Nat.{le_of_eq, lt_of_lt_of_le, lt_irrefl, mul-lt-mul_of_pos_right, mul_right_comm, mul_assoc, mul_left_comm, mul-one, zero-mul, mul-pos, div-lt_iff_lt-mul, mod-eq_of_lt, mod-lt, zero-lt-suc, eq_of_mul-eq-mul_right}
use native.Mathlib.Omega.{arith}
use mathlib.Core.Bool.{Bool, true, false, not, cond, ◌&&◌, true≢false, false≢true}
use lib.IntN.{ℤ, pos}
use lib.Arith.{digits_div, digits_mod, le→nltb}
use lib.Dec.{T, leb, ltb, eqb, ltb→lt}
use lib.Pow.{pow_pos}
use borrow.Author.Tests.{lt-leb, lt-ltb, ne_eqb}
use lib.Ieee.{Float, nan, inf, fin, binary64, up, down, size, odd, of_fields, of_bits, nan_bits, is_nan, lt, fits, to_bits}
use lib.Ieee.Digits.{size-le}
use lib.Ieee.Fits.{down_pos, up_pos, kept-lt, and_r}
use lib.Ieee.Exact.{HasValue, odd_sign}
use lib.Ieee.Positive.{positive}
use lib.Ieee.Bits.{nan_bits_above, of_bits-to_bits}

-- 2 ^ 52, the weight of the exponent's field
abbrev pub H : ℕ
H = 4503599627370496

-- a fraction in other terms
pub rescale : (x : Float) (s : Bool) (a c b d : ℕ) → 0 < c → a * d ≡ b * c → HasValue x s a c → HasValue x s b d
rescale nan s a c b d p h v = v
rescale (inf t) s a c b d p h v = v
rescale (fin t m e) s a c b d p h v = (
  v.0,
  eq_of_mul-eq-mul_right c p (m * up e * d) (b * down e)
      (mul_right_comm (m * up e) d c ∙ ap (λ (z : ℕ). z * d) v.1 ∙ mul_right_comm a (down e) d ∙ ap (λ (z : ℕ). z * down e) h ∙ mul_right_comm b c (down e)),
)

pub regroup : (a p r d : ℕ) → a * (p * r) * d ≡ a * r * (p * d)
regroup a p r d = simp (mul_assoc, mul_left_comm)

-- ---- no NaN: what is above zero, and a pattern below the infinity's
pub above_is_number : (x : Float) → lt (fin false 0 (pos 0)) x ≡ true → T (not (is_nan x))
unfolding lt is_nan
above_is_number nan h = absurd (false≢true h)
above_is_number (inf s) h = tt
above_is_number (fin s m e) h = tt

pub below_is_number : (b : ℕ) → b < 2047 * H → T (not (nan_bits binary64 b))
below_is_number b h =
    let s : b < 9223372036854775808 = omega arith in
    let e : b % 9223372036854775808 ≡ b = mod-eq_of_lt s in
    subst (λ (z : Bool). T (not z)) (sym (nan_bits_above binary64 b)) (le→nltb (2047 * H) (b % 9223372036854775808) (omega arith))

-- ---- what the fields are read as
pub read : (E t : ℕ) → suc E < 2047 → t < H → of_bits binary64 (suc E * H + t) ≡ odd 53 false (H + t) E 1074
unfolding of_bits
read E t h l =
    let b = suc E * H + t in
    let s : b < 9223372036854775808 = omega arith in
    let d : b % 9223372036854775808 / H ≡ suc E = ap (λ (z : ℕ). z / H) (mod-eq_of_lt s) ∙ digits_div (suc E) l in
    ap (λ (z : Bool). of_fields binary64 z (b % 9223372036854775808 / H) (b % H)) (lt-leb 9223372036854775808 b s)
    ∙ ap (λ (z : ℕ). of_fields binary64 false z (b % H)) d
    ∙ ap (λ (z : ℕ). of_fields binary64 false (suc E) z) (digits_mod (suc E) l)
    ∙ ap (λ (z : Bool). cond z (cond (eqb t 0) (inf false) nan) (odd 53 false (H + t) E 1074)) (ne_eqb (suc E) 2047 (λ e. lt_irrefl 2047 (subst (λ (z : ℕ). z < 2047) e h)))

read_small : (t : ℕ) → t < H → of_bits binary64 t ≡ odd 53 false t 0 1074
unfolding of_bits
read_small t l =
    let s : t < 9223372036854775808 = omega arith in
    let d : t % 9223372036854775808 / H ≡ 0 = ap (λ (z : ℕ). z / H) (mod-eq_of_lt s) ∙ omega arith in
    ap (λ (z : Bool). of_fields binary64 z (t % 9223372036854775808 / H) (t % H)) (lt-leb 9223372036854775808 t s)
    ∙ ap (λ (z : ℕ). of_fields binary64 false z (t % H)) d
    ∙ ap (λ (z : ℕ). of_fields binary64 false 0 z) (mod-eq_of_lt l)

-- the number that a pattern of the exponent field suc E, or of the exponent field 0, stands for
pub read_value : (E t : ℕ) → suc E < 2047 → t < H → HasValue (of_bits binary64 (suc E * H + t)) false ((H + t) * 2 ^ E) (2 ^ 1074)
read_value E t h l = subst (λ (y : Float). HasValue y false ((H + t) * 2 ^ E) (2 ^ 1074)) (sym (read E t h l)) (odd_sign 53 false (H + t) E 1074)

pub small_value : (t : ℕ) → t < H → HasValue (of_bits binary64 t) false t (2 ^ 1074)
small_value t l =
    subst (λ (y : Float). HasValue y false t (2 ^ 1074)) (sym (read_small t l))
    (subst (λ (z : ℕ). HasValue (odd 53 false t 0 1074) false z (2 ^ 1074)) (mul-one t) (odd_sign 53 false t 0 1074))

-- ---- the same of a value that the format holds
module _ (x : Float) (f : T (fits binary64 x)) where
  pub bits_is : x ≡ of_bits binary64 (to_bits binary64 x)
  bits_is = sym (of_bits-to_bits binary64 x f)

  pub normal_value : (E t : ℕ) → to_bits binary64 x ≡ suc E * H + t → suc E < 2047 → t < H → HasValue x false ((H + t) * 2 ^ E) (2 ^ 1074)
  normal_value E t b h l =
      subst (λ (y : Float). HasValue y false ((H + t) * 2 ^ E) (2 ^ 1074)) (sym (bits_is ∙ ap (λ (z : ℕ). of_bits binary64 z) b)) (read_value E t h l)

  pub subnormal_value : to_bits binary64 x / H ≡ 0 → HasValue x false (to_bits binary64 x % H) (2 ^ 1074)
  subnormal_value z =
      let e : to_bits binary64 x ≡ to_bits binary64 x % H = omega arith in
      subst (λ (y : Float). HasValue y false (to_bits binary64 x % H) (2 ^ 1074)) (sym (bits_is ∙ ap (λ (b : ℕ). of_bits binary64 b) e))
      (small_value (to_bits binary64 x % H) (mod-lt (to_bits binary64 x) (zero-lt-suc 4503599627370495)))

-- ---- a positive finite value's pattern is below the infinity's
units_lt : (m : ℕ) (e : ℤ) → T (fits binary64 (fin false m e)) → m * up e * 2 ^ 1074 / down e < 2 ^ 2098
unfolding fits
units_lt zero e f = (div-lt_iff_lt-mul (down_pos e)).1 (subst (λ (x : ℕ). x < 2 ^ 2098 * down e) (sym (ap (λ (y : ℕ). y * 2 ^ 1074) (zero-mul (up e)) ∙ zero-mul (2 ^ 1074))) (mul-pos (pow_pos 2098) (down_pos e)))
units_lt (suc m) e f =
    let h : suc m * up e < 2 ^ 1024 * down e = ltb→lt (suc m * up e) (2 ^ 1024 * down e) (and_r (eqb (suc m % 2) 1 && ltb (suc m) (2 ^ 53) && leb (down e) (2 ^ 1074)) (ltb (suc m * up e) (2 ^ 1024 * down e)) f) in
    (div-lt_iff_lt-mul (down_pos e)).1
    (lt_of_lt_of_le (mul-lt-mul_of_pos_right h (pow_pos 1074)) (le_of_eq (mul_right_comm (2 ^ 1024) (down e) (2 ^ 1074))))

pub finite_bits : (m : ℕ) (e : ℤ) → T (fits binary64 (fin false m e)) → to_bits binary64 (fin false m e) < 2047 * H
unfolding to_bits
finite_bits m e f =
    let n = m * up e * 2 ^ 1074 / down e in
    let z = size-le n 2098 (units_lt m e f) in
    let k = kept-lt 53 n in
    omega arith

pub positive_bits : (x : Float) → T (fits binary64 x) → T (positive x) → to_bits binary64 x < 2047 * H
positive_bits nan f p = absurd p
positive_bits (inf s) f p = absurd p
positive_bits (fin true m e) f p = absurd p
positive_bits (fin false m e) f p = finite_bits m e f

pub positive_above : (x : Float) → T (positive x) → lt (fin false 0 (pos 0)) x ≡ true
unfolding lt
positive_above nan p = absurd p
positive_above (inf s) p = absurd p
positive_above (fin true m e) p = absurd p
positive_above (fin false m e) p =
    lt-ltb (0 * 1 * down e) (m * up e * 1)
    (subst (λ (y : ℕ). y < m * up e * 1) (sym (zero-mul (down e))) (mul-pos (mul-pos (ltb→lt 0 m p) (up_pos e)) (zero-lt-suc 0)))
