-- From an f64's bit pattern to its magnitude in units of the last place. Assumes nothing.
use mathlib.Core.Path.{◌≡◌, refl, sym, ap, ◌∙◌, subst}
use Prim.Native.Nat.{ℕ, zero, suc, ◌+◌, ◌-◌, ◌*◌, ◌/◌, ◌%◌, ◌^◌, ◌≤◌, ◌<◌}
use native.Mathlib.Nat.{le_trans, le_of_eq, le_of_lt, lt_of_lt_of_le, lt_of_le_of_lt, lt_irrefl, mul_assoc, mul_comm, mul_left_comm, mul_right_comm, mul-one, one-mul, mul-le-mul, mul-le-mul_right, mul-le-mul_left, mul-lt-mul_of_pos_right, lt_of_mul-lt-mul_right, pow-le-pow_right, mod-lt, zero-lt-suc, add_comm, le-add_right, zero-add, zero-mul, lt_of_not-le}
use native.Mathlib.Omega.{arith}
use mathlib.Core.Bool.{Bool, true, false, not, cond, ◌&&◌, false≢true}
use lib.IntN.{ℤ}
use lib.Dec.{T, leb, ltb, eqb}
use lib.Pow.{pow-add, pow_pos}
use borrow.Author.Tests.{ltb-true, le-ltb, lt-ltb}
use lib.Ieee.{Float, nan, inf, fin, binary64, up, down, odd, of_fields, of_bits, to_bits, is_nan, fits, lt, neg, round}
use lib.Ieee.Fits.{down_pos}
use lib.Ieee.Exact.{HasValue, odd_sign}
use lib.Ieee.Nearest.{closest_same}
use lib.Ieee.Bits.{of_bits-to_bits}
use Rattle.floats.proofs.Patterns.{H}
use Rattle.floats.specs.Notation.{dec}
use Rattle.decimals.specs.Fixed.{nearest_whole, units_of, limit, in_range}
use Rattle.decimals.proofs.Near.{below_half}
use Rattle.decimals.proofs.Spelled.{left_of_lem, right_of}

-- 2 ^ 63, the weight of the sign
abbrev pub S : ℕ
S = 9223372036854775808

-- ---- what is in range is a number, and its magnitude is below 2 ^ 40
pub no_nan : (x : Float) → in_range x ≡ true → T (not (is_nan x))
unfolding in_range is_nan lt
no_nan nan h = absurd (false≢true h)
no_nan (inf s) h = tt
no_nan (fin s m e) h = tt

magnitude_lt : (s : Bool) (m : ℕ) (e : ℤ) → in_range (fin s m e) ≡ true → m * up e * 1 < 1 * 1099511627776 * down e
unfolding in_range lt neg round
magnitude_lt false m e h =
    ltb-true (m * up e * 1) (1 * 1099511627776 * down e) (left_of_lem (ltb (m * up e * 1) (1 * 1099511627776 * down e)) (lt (neg limit) (fin false m e)) h)
magnitude_lt true m e h =
    ltb-true (m * up e * 1) (1 * 1099511627776 * down e) (right_of (lt (fin true m e) limit) (ltb (m * up e * 1) (1 * 1099511627776 * down e)) h)

-- the same of any fraction that x is
value_lt : (x : Float) (s : Bool) (a c : ℕ) → 0 < c → HasValue x s a c → in_range x ≡ true → a < 1099511627776 * c
value_lt nan s a c p v h = absurd v
value_lt (inf t) s a c p v h = absurd v
value_lt (fin t m e) s a c p v h =
    let l : m * up e < 1099511627776 * down e = lt_of_le_of_lt (le_of_eq (sym (mul-one (m * up e)))) (lt_of_lt_of_le (magnitude_lt t m e h) (le_of_eq (ap (λ (z : ℕ). z * down e) (one-mul 1099511627776)))) in
    let g : m * up e * c < 1099511627776 * down e * c = mul-lt-mul_of_pos_right l p in
    lt_of_mul-lt-mul_right (down e)
    (lt_of_le_of_lt (le_of_eq (sym v.1)) (lt_of_lt_of_le g (le_of_eq (mul_right_comm 1099511627776 (down e) c))))

-- the units of any fraction that x is
units_at : (p : ℕ) (x : Float) (s : Bool) (a c : ℕ) → 0 < c → HasValue x s a c → units_of p x ≡ nearest_whole (a * 10 ^ p) c
unfolding units_of
units_at p nan s a c l v = absurd v
units_at p (inf t) s a c l v = absurd v
units_at p (fin t m e) s a c l v =
    closest_same (m * up e * 10 ^ p) (down e) (a * 10 ^ p) c (down_pos e) l
    (mul_right_comm (m * up e) (10 ^ p) c ∙ ap (λ (z : ℕ). z * 10 ^ p) v.1 ∙ mul_right_comm a (down e) (10 ^ p))

-- ---- the fields of a pattern: the exponent's E and the digits t
abbrev pub E : Float → ℕ
E x = to_bits binary64 x % S / H

abbrev pub t : Float → ℕ
t x = to_bits binary64 x % H

abbrev sign : Float → Bool
sign x = leb S (to_bits binary64 x)

not_shown : (s : Bool) (b : Bool) → in_range (cond b (inf s) nan) ≡ true → ⊥
unfolding in_range lt neg round
not_shown true true h = false≢true h
not_shown false true h = false≢true h
not_shown s false h = false≢true h

module _ (x : Float) (f : T (fits binary64 x)) (h : in_range x ≡ true) where
  fields : x ≡ of_fields binary64 (sign x) (E x) (t x)
  unfolding of_bits
  fields = sym (of_bits-to_bits binary64 x f)

  digits_lt : t x < H
  digits_lt = mod-lt (to_bits binary64 x) (zero-lt-suc 4503599627370495)

  -- no exponent field: a number below 2 ^ -1022
  small_value : E x ≡ 0 → HasValue x (sign x) (t x * 2 ^ 0) (2 ^ 1074)
  unfolding of_fields
  small_value e =
      subst (λ (y : Float). HasValue y (sign x) (t x * 2 ^ 0) (2 ^ 1074)) (sym (fields ∙ ap (λ (z : ℕ). of_fields binary64 (sign x) z (t x)) e))
      (odd_sign 53 (sign x) (t x) 0 1074)

  value_by : (b : Bool) (k : ℕ) → x ≡ cond b (cond (eqb (t x) 0) (inf (sign x)) nan) (odd 53 (sign x) (H + t x) k 1074)
      → HasValue x (sign x) ((H + t x) * 2 ^ k) (2 ^ 1074)
  value_by true k e = absurd (not_shown (sign x) (eqb (t x) 0) (subst (λ (y : Float). in_range y ≡ true) e h))
  value_by false k e = subst (λ (y : Float). HasValue y (sign x) ((H + t x) * 2 ^ k) (2 ^ 1074)) (sym e) (odd_sign 53 (sign x) (H + t x) k 1074)

  value : (k : ℕ) → E x ≡ suc k → HasValue x (sign x) ((H + t x) * 2 ^ k) (2 ^ 1074)
  unfolding of_fields
  value k e = value_by (eqb (suc k) 2047) k (fields ∙ ap (λ (z : ℕ). of_fields binary64 (sign x) z (t x)) e)

  two_le : (k j : ℕ) → k ≤ j → 2 ^ k ≤ 2 ^ j
  two_le k j g = pow-le-pow_right {n = 2} (zero-lt-suc 1) {i = k} {j = j} g

  -- so the field is below 1063
  field_lt : (k : ℕ) → E x ≡ suc k → 1062 ≤ k → ⊥
  field_lt k e g =
      let a = value_lt x (sign x) ((H + t x) * 2 ^ k) (2 ^ 1074) (pow_pos 1074) (value k e) h in
      let b : H * 2 ^ 1062 ≤ (H + t x) * 2 ^ k = mul-le-mul (le-add_right H (t x)) (two_le 1062 k g) in
      lt_irrefl (H * 2 ^ 1062) (lt_of_le_of_lt b a)

  -- ---- less than half a unit
  tiny : (p m k : ℕ) → p ≤ 9 → m < 9007199254740992 → k ≤ 990 → m * 2 ^ k * 10 ^ p * 2 < 2 ^ 1074
  tiny p m k g l i =
      let a : m * 2 ^ k < 9007199254740992 * 2 ^ k = mul-lt-mul_of_pos_right l (pow_pos k) in
      let b : 9007199254740992 * 2 ^ k ≤ 9007199254740992 * 2 ^ 990 = mul-le-mul_left 9007199254740992 (two_le k 990 i) in
      let c : 10 ^ p ≤ 1000000000 = pow-le-pow_right {n = 10} (zero-lt-suc 9) {i = p} {j = 9} g in
      let d : 10 ^ p * 2 ≤ 2147483648 = omega arith in
      lt_of_le_of_lt (le_of_eq (mul_assoc (m * 2 ^ k) (10 ^ p) 2))
      (lt_of_le_of_lt (mul-le-mul_left (m * 2 ^ k) d) (mul-lt-mul_of_pos_right (lt_of_lt_of_le a b) (zero-lt-suc 2147483647)))

  none : (p m k : ℕ) → p ≤ 9 → m < 9007199254740992 → k ≤ 990 → HasValue x (sign x) (m * 2 ^ k) (2 ^ 1074) → units_of p x ≡ 0
  none p m k g l i v =
      units_at p x (sign x) (m * 2 ^ k) (2 ^ 1074) (pow_pos 1074) v
      ∙ below_half (m * 2 ^ k * 10 ^ p) (2 ^ 1074) 0 (m * 2 ^ k * 10 ^ p) (sym (zero-add (m * 2 ^ k * 10 ^ p)) ∙ ap (λ (z : ℕ). z + m * 2 ^ k * 10 ^ p) (sym (zero-mul (2 ^ 1074)))) (tiny p m k g l i)

  pub no_units : (p : ℕ) → p ≤ 9 → E x < 992 → units_of p x ≡ 0
  no_units p g i = go (E x) refl
    where
      go : (n : ℕ) → E x ≡ n → units_of p x ≡ 0
      go zero e = none p (t x) 0 g (let d = digits_lt in omega arith) (omega arith) (small_value e)
      go (suc k) e = none p (H + t x) k g (let d = digits_lt in omega arith) (omega arith) (value k e)

  -- ---- m / 2 ^ (1075 - E)
  pub field_most : 992 ≤ E x → E x ≤ 1062
  field_most i = go (E x) refl
    where
      go : (n : ℕ) → E x ≡ n → E x ≤ 1062
      go zero e = omega arith
      go (suc k) e = le_trans (le_of_eq e) (lt_of_not-le (field_lt k e))

  some : (p k : ℕ) → E x ≡ suc k → suc k ≤ 1062 → units_of p x ≡ nearest_whole ((t x + H) * 10 ^ p) (2 ^ (1075 - suc k))
  some p k e i =
      let s : k + (1075 - suc k) ≡ 1074 = omega arith in
      let w : (H + t x) * 2 ^ k * 10 ^ p * 2 ^ (1075 - suc k) ≡ (t x + H) * 10 ^ p * 2 ^ 1074 =
      ap (λ (z : ℕ). z * 2 ^ (1075 - suc k)) (mul_right_comm (H + t x) (2 ^ k) (10 ^ p)) ∙ mul_assoc ((H + t x) * 10 ^ p) (2 ^ k) (2 ^ (1075 - suc k))
      ∙ ap (λ (z : ℕ). (H + t x) * 10 ^ p * z) (sym (pow-add 2 k (1075 - suc k)) ∙ ap (λ (z : ℕ). 2 ^ z) s) ∙ ap (λ (z : ℕ). z * 10 ^ p * 2 ^ 1074) (add_comm H (t x)) in
      units_at p x (sign x) ((H + t x) * 2 ^ k) (2 ^ 1074) (pow_pos 1074) (value k e)
      ∙ closest_same ((H + t x) * 2 ^ k * 10 ^ p) (2 ^ 1074) ((t x + H) * 10 ^ p) (2 ^ (1075 - suc k)) (pow_pos 1074) (pow_pos (1075 - suc k)) w

  pub units_in : (p : ℕ) → 992 ≤ E x → units_of p x ≡ nearest_whole ((t x + H) * 10 ^ p) (2 ^ (1075 - E x))
  units_in p i = go (E x) refl
    where
      go : (n : ℕ) → E x ≡ n → units_of p x ≡ nearest_whole ((t x + H) * 10 ^ p) (2 ^ (1075 - E x))
      go zero e = absurd (omega arith)
      go (suc k) e = some p k e (le_trans (le_of_eq (sym e)) (field_most i)) ∙ ap (λ (z : ℕ). nearest_whole ((t x + H) * 10 ^ p) (2 ^ (1075 - z))) (sym e)
