-- From a positive value's bit pattern to the digits and the place that its root is found from, and from the root's digits back to a value. Assumes nothing.
use mathlib.Core.Path.{◌≡◌, refl, sym, ap, ◌∙◌, subst}
use Prim.Native.Nat.{ℕ, zero, suc, ◌+◌, ◌-◌, ◌*◌, ◌/◌, ◌%◌, ◌^◌, ◌≤◌, ◌<◌}
use native.Mathlib.Nat.{le_trans, le_of_eq, le-add_right, le_antisymm, lt_of_not-le, lt_of_lt_of_le, lt_of_le_of_lt, lt_irrefl, not-le_of_lt, mul-le-mul_right, mul-lt-mul_of_pos_right, mul_comm, mul_assoc, mul_left_comm, zero-mul, mul-pos, pow-suc, div-add-mod', mod-lt, mod-eq_of_lt, zero-lt-suc, mul-div_cancel, add_comm, one-le-pow}
use native.Mathlib.Omega.{arith}
use mathlib.Core.Bool.{Bool, true, false, cond, ◌&&◌, ◌||◌, true≢false, false≢true}
use lib.IntN.{ℤ, pos}
use lib.Dec.{T, eqb, lit≤, lit<, eqb→eq, eqb-suc-zero}
use lib.Pow.{pow-add, pow_pos, pow_mono}
use lib.Count.{count_leading_zeros, leading_top}
use borrow.Author.Tests.{lt-ltb, ne_eqb}
use lib.Ieee.{Float, nan, inf, fin, binary64, up, down, size, odd, of_bits, lt, eq, fits, to_bits}
use lib.Ieee.Digits.{size-lt, size-le}
use lib.Ieee.Fits.{down_pos, up_pos, and_l}
use lib.Ieee.Exact.{HasValue, odd_sign}
use lib.Ieee.Positive.{positive}
use Rattle.square_root.specs.Root.{near_root, units_in, root_of, sqrt_of}
use Rattle.square_root.specs.Claims.{NearestRoot}
use Rattle.floats.proofs.Patterns.{H, rescale, read, bits_is, normal_value, subnormal_value, finite_bits, positive_bits, positive_above}
use Rattle.square_root.proofs.RootLaws.{near_range, near_holds, sq_suc, twice_sq}

-- ---- a value of w units of 2 ^ -1074 has the root of w
not_zero : (m : ℕ) (e : ℤ) (w : ℕ) → 0 < w → m * up e * 2 ^ 1074 ≡ w * down e → m ≡ 0 → ⊥
not_zero m e w P v z =
    lt_irrefl 0 (subst (λ (x : ℕ). 0 < x) (sym v ∙ ap (λ (y : ℕ). y * up e * 2 ^ 1074) z ∙ ap (λ (y : ℕ). y * 2 ^ 1074) (zero-mul (up e)) ∙ zero-mul (2 ^ 1074)) (mul-pos P (down_pos e)))

val_root : (y : Float) (w : ℕ) → 0 < w → HasValue y false w (2 ^ 1074) → sqrt_of y ≡ root_of w
unfolding sqrt_of units_in
val_root nan w P v = elim v [ ]
val_root (inf _) w P v = elim v [ ]
val_root (fin true m e) w P v = absurd (true≢false v.0)
val_root (fin false m e) w P v =
    ap (λ (b : Bool). cond b (fin false m e) (root_of (units_in m e))) (ne_eqb m 0 (not_zero m e w P v.1))
    ∙ ap root_of (ap (λ (n : ℕ). n / down e) v.1 ∙ mul-div_cancel w (down_pos e))

-- ---- powers
size_of : (n i : ℕ) → 2 ^ i ≤ n → n < 2 ^ suc i → size n ≡ suc i
size_of n i a b = le_antisymm (size-le n (suc i) b) (lt_of_not-le (λ (g : size n ≤ i). not-le_of_lt (lt_of_lt_of_le (size-lt n) (pow_mono g)) a))

four : (h : ℕ) → 4 ^ h ≡ 2 ^ (h * 2)
four zero = refl
four (suc h) =
    let e : h * 2 + 2 ≡ suc h * 2 = omega arith in
    pow-suc 4 h ∙ ap (λ (x : ℕ). x * 4) (four h) ∙ sym (pow-add 2 (h * 2) 2) ∙ ap (λ (x : ℕ). 2 ^ x) e

small : (r : ℕ) → r < 2 → 2 ^ r ≡ 1 + r
small zero h = refl
small (suc zero) h = refl
small (suc (suc r)) h = absurd (omega arith)

shuffle : (m a b c : ℕ) → m * (a * b) * c ≡ m * b * c * a
shuffle m a b c = simp (mul_assoc, mul_comm, mul_left_comm)

-- ---- a positive x as m * 2 ^ K / 2 ^ 1128, for an m of 53 binary digits
pub record Digits (x : Float) (m K : ℕ) : Type 0 where
  pub n : ℕ
  pub value : HasValue x false n (2 ^ 1074)
  pub some : 0 < n
  pub size_is : size n + 1 ≡ K
  pub is : n * 2 ^ 54 ≡ m * 2 ^ K
  pub lo : H ≤ m
  pub hi : m < 9007199254740992
  pub few : K ≤ 2200

pub scaled : (m r : ℕ) → r < 2 → H ≤ m → m < 9007199254740992 → (H ≤ m * (1 + r)) × (m * (1 + r) ≤ 18014398509481982)
scaled m zero h lo hi = (omega arith, omega arith)
scaled m (suc zero) h lo hi = (omega arith, omega arith)
scaled m (suc (suc r)) h lo hi = absurd (omega arith)

module _ (x : Float) (m K : ℕ) (d : Digits x m K) where
  -- what the root is taken of, below 2 ^ 106
  abbrev N : ℕ
  N = m * (1 + K % 2) * H

  N-is : d.n * 2 ^ 106 ≡ N * 4 ^ (K / 2)
  N-is =
      let p : 2 ^ K ≡ 4 ^ (K / 2) * (1 + K % 2) =
      ap (λ (x : ℕ). 2 ^ x) (sym (div-add-mod' K 2)) ∙ pow-add 2 (K / 2 * 2) (K % 2) ∙ ap (λ (x : ℕ). x * 2 ^ (K % 2)) (sym (four (K / 2))) ∙ ap (λ (x : ℕ). 4 ^ (K / 2) * x) (small (K % 2) (mod-lt K (zero-lt-suc 1))) in
      sym (mul_assoc d.n (2 ^ 54) (2 ^ 52)) ∙ ap (λ (x : ℕ). x * H) (d.is ∙ ap (λ (x : ℕ). m * x) p) ∙ shuffle m (4 ^ (K / 2)) (1 + K % 2) H

  root_is : sqrt_of x ≡ odd 53 false (near_root N) (K / 2 + 484) 1074
  unfolding root_of
  root_is =
      val_root x d.n d.some d.value
      ∙ ap (λ (z : ℕ). odd 53 false (near_root (d.n * 2 ^ 106 / 4 ^ (z / 2))) (z / 2 + 484) 1074) d.size_is
      ∙ ap (λ (z : ℕ). odd 53 false (near_root z) (K / 2 + 484) 1074) (ap (λ (z : ℕ). z / 4 ^ (K / 2)) N-is ∙ mul-div_cancel N (one-le-pow (K / 2) 4 (zero-lt-suc 3)))

  inside : (H ≤ m * (1 + K % 2)) × (m * (1 + K % 2) ≤ 18014398509481982)
  inside = scaled m (K % 2) (mod-lt K (zero-lt-suc 1)) d.lo d.hi

  range : (H ≤ near_root N) × (near_root N < 9007199254740992)
  range = near_range (m * (1 + K % 2)) inside.0 inside.1

  -- the pattern that is packed is the root's
  pub packed_root : (r : ℕ) → r ≡ (K / 2 + 484) * H + near_root N → of_bits binary64 r ≡ sqrt_of x
  packed_root r p =
      let q = near_root N in
      let g = range in
      let k = d.few in
      let u : r ≡ suc (K / 2 + 484) * H + (q - H) = omega arith in
      let v : H + (q - H) ≡ q = omega arith in
      ap (λ (z : ℕ). of_bits binary64 z) u
      ∙ read (K / 2 + 484) (q - H) (omega arith) (omega arith)
      ∙ ap (λ (z : ℕ). odd 53 false z (K / 2 + 484) 1074) v
      ∙ sym root_is

  nearest : NearestRoot x (sqrt_of x)
  nearest =
      let z = inside in
      let j = K / 2 in
      let q = near_root N in
      let g = range in
      let w = near_holds N (omega arith) (lt_of_le_of_lt (mul-le-mul_right H z.1) (lit< tt)) in
      let e : q - 1 + 1 ≡ q = omega arith in
      let s : q * q ≡ (q - 1) * (q - 1) + 2 * (q - 1) + 1 = ap (λ (y : ℕ). y * y) (sym e) ∙ sq_suc (q - 1) in
      let o : 2 * q - 1 ≡ 2 * (q - 1) + 1 = omega arith in
      let t : (2 * q - 1) * (2 * q - 1) ≡ 2 * (q - 1) * (2 * (q - 1)) + 2 * (2 * (q - 1)) + 1 = ap (λ (y : ℕ). y * y) o ∙ sq_suc (2 * (q - 1)) in
      let c = twice_sq (q - 1) in
      let f = twice_sq q in
      let i = sq_suc (2 * q) in
      record {
        N = N;
        q = q;
        j = j;
        number = rescale x false d.n (2 ^ 1074) (N * 4 ^ j) (2 ^ 1180) (pow_pos 1074) (sym (mul_assoc d.n (2 ^ 106) (2 ^ 1074)) ∙ ap (λ (y : ℕ). y * 2 ^ 1074) N-is) d.value;
        root =
            subst (λ (y : Float). HasValue y false (q * 2 ^ j) (2 ^ 590)) (sym root_is)
            (rescale (odd 53 false q (j + 484) 1074) false (q * 2 ^ (j + 484)) (2 ^ 1074) (q * 2 ^ j) (2 ^ 590) (pow_pos 1074)
            (ap (λ (y : ℕ). q * y * 2 ^ 590) (pow-add 2 j 484) ∙ ap (λ (y : ℕ). y * 2 ^ 590) (sym (mul_assoc q (2 ^ j) (2 ^ 484))) ∙ mul_assoc (q * 2 ^ j) (2 ^ 484) (2 ^ 590))
            (odd_sign 53 false q (j + 484) 1074));
        long = g.0;
        short = g.1;
        above = omega arith;
        below = omega arith;
      }

-- ---- a normal number
normal_at : (x : Float) (e t : ℕ) → T (fits binary64 x) → to_bits binary64 x < 2047 * H → to_bits binary64 x ≡ e * H + t → t < H → (e ≡ 0 → ⊥) → Digits x (t + H) (e + 53)
normal_at x zero t f h b l z = absurd (z refl)
normal_at x (suc E) t f h b l z =
    let n = (H + t) * 2 ^ E in
    let lo : 2 ^ (52 + E) ≤ n = le_trans (le_of_eq (pow-add 2 52 E)) (mul-le-mul_right (2 ^ E) (le-add_right H t)) in
    let hi : n < 2 ^ suc (52 + E) = subst (λ (y : ℕ). n < y) (sym (pow-add 2 53 E) ∙ ap (λ (y : ℕ). 2 ^ y) (omega arith)) (mul-lt-mul_of_pos_right (omega arith) (pow_pos E)) in
    record {
      n = n;
      value = normal_value x f E t b (omega arith) l;
      some = mul-pos (omega arith) (pow_pos E);
      size_is = omega (arith, size_of n (52 + E) lo hi);
      is =
          mul_assoc (H + t) (2 ^ E) (2 ^ 54) ∙ ap (λ (y : ℕ). (H + t) * y) (sym (pow-add 2 E 54) ∙ ap (λ (y : ℕ). 2 ^ y) (omega arith)) ∙ ap (λ (y : ℕ). y * 2 ^ (suc E + 53)) (add_comm H t);
      lo = omega arith;
      hi = omega arith;
      few = omega arith;
    }

pub normal : (x : Float) → T (fits binary64 x) → to_bits binary64 x < 2047 * H → (to_bits binary64 x / H ≡ 0 → ⊥) → Digits x (to_bits binary64 x % H + H) (to_bits binary64 x / H + 53)
normal x f h z =
    let b = to_bits binary64 x in
    normal_at x (b / H) (b % H) f h (sym (div-add-mod' b H)) (mod-lt b (zero-lt-suc 4503599627370495)) z

-- ---- a subnormal number: t units, below 2 ^ 52, moved up by as many places as it lacks
record Length (t : ℕ) : Type 0 where
  j : ℕ
  whole : count_leading_zeros 64 t + suc j ≡ 64
  lo : 2 ^ j ≤ t
  hi : t < 2 ^ suc j
  few : j < 52

length_of : (t : ℕ) → 0 < t → t < H → Length t
length_of t P l =
    let r = leading_top 64 t P (lt_of_lt_of_le l (lit≤ tt)) in
    record { j = r.0; whole = r.1; lo = r.2; hi = r.3; few = lt_of_not-le (λ (g : 52 ≤ r.0). not-le_of_lt l (le_trans (pow_mono g) r.2)) }

-- the pattern of a value above zero is above zero
above_has_bits : (x : Float) (b : ℕ) → x ≡ of_bits binary64 b → lt (fin false 0 (pos 0)) x ≡ true → 0 < b
unfolding lt of_bits
above_has_bits x zero is p = absurd (false≢true (sym (ap (λ (y : Float). lt (fin false 0 (pos 0)) y) is) ∙ p))
above_has_bits x (suc b) is p = zero-lt-suc b

module _ (x : Float) (f : T (fits binary64 x)) (p : lt (fin false 0 (pos 0)) x ≡ true) (z : to_bits binary64 x / H ≡ 0) where
  abbrev t : ℕ
  t = to_bits binary64 x % H

  abbrev places : ℕ
  places = count_leading_zeros 64 t - 11

  len : Length t
  len = let g = above_has_bits x (to_bits binary64 x) (bits_is x f) p in length_of t (omega arith) (mod-lt (to_bits binary64 x) (zero-lt-suc 4503599627370495))

  pub zeros_enough : (11 ≤ count_leading_zeros 64 t) × (count_leading_zeros 64 t - 11 ≤ 52)
  zeros_enough = let r = len in (omega arith, omega arith)

  lo : H ≤ t * 2 ^ places
  lo =
      let r = len in
      let e : 52 ≡ r.j + places = omega arith in
      le_trans (le_of_eq (ap (λ (y : ℕ). 2 ^ y) e ∙ pow-add 2 r.j places)) (mul-le-mul_right (2 ^ places) r.lo)

  hi : t * 2 ^ places < 9007199254740992
  hi =
      let r = len in
      let e : suc r.j + places ≡ 53 = omega arith in
      lt_of_lt_of_le (mul-lt-mul_of_pos_right r.hi (pow_pos places)) (le_of_eq (sym (pow-add 2 (suc r.j) places) ∙ ap (λ (y : ℕ). 2 ^ y) e))

  pub subnormal : Digits x ((t * 2 ^ (count_leading_zeros 64 t - 11)) % 18446744073709551616) (54 - (count_leading_zeros 64 t - 11))
  subnormal =
      let r = len in
      let K = 54 - places in
      let k : 54 ≡ places + K = omega arith in
      let g : 0 < 2 ^ r.j = pow_pos r.j in
      let q = r.lo in
      subst (λ (m : ℕ). Digits x m K) (sym (mod-eq_of_lt (lt_of_lt_of_le hi (lit≤ tt))))
      record {
        n = t;
        value = subnormal_value x f z;
        some = omega arith;
        size_is = omega (arith, size_of t r.j r.lo r.hi);
        is = ap (λ (y : ℕ). t * y) (ap (λ (y : ℕ). 2 ^ y) k ∙ pow-add 2 places K) ∙ sym (mul_assoc t (2 ^ places) (2 ^ K));
        lo = lo;
        hi = hi;
        few = omega arith;
      }

-- ---- the values that are their own root, and those that have none
T_of : {b : Bool} → b ≡ true → T b
T_of h = subst T (sym h) tt

pub at_top : (x : Float) → T (fits binary64 x) → lt (fin false 0 (pos 0)) x ≡ true → 2047 * H ≤ to_bits binary64 x → x ≡ sqrt_of x
unfolding lt sqrt_of
at_top nan f p h = refl
at_top (inf true) f p h = absurd (false≢true p)
at_top (inf false) f p h = refl
at_top (fin true m e) f p h = absurd (false≢true p)
at_top (fin false m e) f p h = absurd (not-le_of_lt (finite_bits m e f) h)

zero_side : (e : ℤ) → zero * up e * 1 ≡ 0
zero_side e = ap (λ (y : ℕ). y * 1) (zero-mul (up e)) ∙ zero-mul 1

zero_side' : (e : ℤ) → 0 * 1 * down e ≡ 0
zero_side' e = zero-mul (down e)

suc_side : (m : ℕ) (e : ℤ) → 0 < suc m * up e * 1
suc_side m e = mul-pos (mul-pos (zero-lt-suc m) (up_pos e)) (zero-lt-suc 0)

pub at_zero : (x : Float) → eq x (fin false 0 (pos 0)) ≡ true → x ≡ sqrt_of x
unfolding eq sqrt_of
at_zero nan h = refl
at_zero (inf s) h = absurd (false≢true h)
at_zero (fin s zero e) h = refl
at_zero (fin s (suc m) e) h =
    absurd (lt_irrefl 0 (subst (λ (y : ℕ). 0 < y) (eqb→eq (suc m * up e * 1) (0 * 1 * down e) (and_l (eqb (suc m * up e * 1) (0 * 1 * down e)) _ (T_of h)) ∙ zero_side' e) (suc_side m e)))

-- a zero of either sign equals zero
zero_equals : (s : Bool) (e : ℤ) → eq (fin s zero e) (fin false 0 (pos 0)) ≡ true
unfolding eq
zero_equals true e = ap (λ (y : ℕ). eqb y (0 * 1 * down e) && (false || eqb y 0)) (zero_side e) ∙ ap (λ (y : ℕ). eqb 0 y && true) (zero_side' e)
zero_equals false e = ap (λ (y : ℕ). eqb y (0 * 1 * down e) && true) (zero_side e) ∙ ap (λ (y : ℕ). eqb 0 y && true) (zero_side' e)

pub elsewhere : (x : Float) → lt (fin false 0 (pos 0)) x ≡ false → eq x (fin false 0 (pos 0)) ≡ false → nan ≡ sqrt_of x
unfolding lt sqrt_of
elsewhere nan p q = refl
elsewhere (inf true) p q = refl
elsewhere (inf false) p q = absurd (true≢false p)
elsewhere (fin s zero e) p q = absurd (true≢false (sym (zero_equals s e) ∙ q))
elsewhere (fin true (suc m) e) p q = sym (ap (λ (b : Bool). cond b (fin true (suc m) e) nan) (eqb-suc-zero m))
elsewhere (fin false (suc m) e) p q = absurd (true≢false (sym (lt-ltb (0 * 1 * down e) (suc m * up e * 1) (subst (λ (y : ℕ). y < suc m * up e * 1) (sym (zero_side' e)) (suc_side m e))) ∙ p))

-- ---- the root of every positive finite value is the nearest
pub nearest_root : (x : Float) → T (fits binary64 x) → T (positive x) → NearestRoot x (sqrt_of x)
nearest_root x f p = go (to_bits binary64 x / H) refl
  where
    go : (e : ℕ) → to_bits binary64 x / H ≡ e → NearestRoot x (sqrt_of x)
    go zero e = nearest x _ _ (subnormal x f (positive_above x p) e)
    go (suc E) e =
        let i : to_bits binary64 x / H ≡ 0 → ⊥ = λ z. let a = z in omega arith in
        nearest x _ _ (normal x f (positive_bits x f p) i)
