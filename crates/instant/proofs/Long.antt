-- The quotient of a whole number that is no f64: n / d rounds as Q / 2 ^ k does, where Q is the whole number nearest to n * 2 ^ k / d and has all the 53 digits of an f64. Assumes nothing.
use mathlib.Core.Path.{◌≡◌, refl, sym, ap, ◌∙◌, subst}
use mathlib.Core.Logic.{◌⊎◌, inl, inr}
use mathlib.Core.Bool.{Bool, true, false, not, cond}
use Prim.Native.Nat.{ℕ, zero, suc, ◌+◌, ◌-◌, ◌*◌, ◌/◌, ◌%◌, ◌^◌, ◌≤◌, ◌<◌, compare, Ordering}
use native.Mathlib.Nat.{le_trans, le_of_eq, lt_of_lt_of_le, lt_of_le_of_lt, lt_of_not-le, not-le_of_lt, eq-or-lt_of_le, mul-one, one-mul, mul_comm, mul_assoc, mul_right_comm, mul-pos, mul-le-mul_right, mul-lt-mul_of_pos_right, eq_of_mul-eq-mul_right, le-div_iff_mul-le, div-lt_iff_lt-mul, mul-add-div_right, mul-add-mod_self_right, mod-eq_of_lt, mod-lt, div-add-mod', div-eq_of_lt, add-mul, pow-suc}
use native.Mathlib.Numerals.{add-one}
use native.Mathlib.Omega.{arith}
use lib.Dec.{T, is_le, compare_is_eq, eqb, ltb, leb→le, nleb→lt, eqb→eq, eqb_refl, lit<}
use lib.Pow.{pow-add, pow_pos, pow_mono, pow-lt}
use lib.Ieee.{Float, inf, fin, Format, binary64, prec, low, hid, top, up, down, size, nearest, odd, units, round, neg, fits, to_bits, of_bits}
use lib.Ieee.Digits.{size-lt, size-le}
use lib.Ieee.Fits.{down_pos, round_is, round-fits, nearest-le}
use lib.Ieee.Bits.{of_bits-to_bits}
use lib.Ieee.Exact.{HasValue, units_val, round_exact}
use lib.Ieee.Nearest.{closest, closest_same, div_same}
use lib.Ieee.Scale.{round_same}
use Rattle.instant.specs.Division.{Divided}

-- ---- two values that a format holds are the same where they are the same number
abbrev pattern : Format → Bool → ℕ → ℕ
pattern f s n = cond s (top f) 0 + (size n - prec f) * hid f + n / 2 ^ (size n - prec f)

same_bits : (f : Format) (x y : Float) (s : Bool) (a c : ℕ) → 0 < c → HasValue x s a c → HasValue y s a c → to_bits f x ≡ to_bits f y
unfolding to_bits
same_bits f lib.Ieee.nan y s a c C v w = elim v [ ]
same_bits f (inf _) y s a c C v w = elim v [ ]
same_bits f (fin t m e) lib.Ieee.nan s a c C v w = elim w [ ]
same_bits f (fin t m e) (inf _) s a c C v w = elim w [ ]
same_bits f (fin t m e) (fin u n d) s a c C v w =
    let L = 2 ^ low f in
    let cross : m * up e * down d ≡ n * up d * down e =
    eq_of_mul-eq-mul_right c C (m * up e * down d) (n * up d * down e)
    (mul_right_comm (m * up e) (down d) c ∙ ap (λ (z : ℕ). z * down d) v.1 ∙ mul_right_comm a (down e) (down d) ∙ ap (λ (z : ℕ). z * down e) (sym w.1) ∙ mul_right_comm (n * up d) c (down e)) in
    let same : m * up e * L / down e ≡ n * up d * L / down d =
    div_same (m * up e * L) (down e) (n * up d * L) (down d) (down_pos e) (down_pos d)
    (mul_right_comm (m * up e) L (down d) ∙ ap (λ (z : ℕ). z * L) cross ∙ mul_right_comm (n * up d) (down e) L) in
    ap (λ (b : Bool). pattern f b (m * up e * L / down e)) (v.0 ∙ sym w.0) ∙ ap (λ (z : ℕ). pattern f u z) same

pub unique : (f : Format) (x y : Float) (s : Bool) (a c : ℕ) → 0 < c → T (fits f x) → T (fits f y) → HasValue x s a c → HasValue y s a c → x ≡ y
unique f x y s a c C p q v w = sym (of_bits-to_bits f x p) ∙ ap (λ (b : ℕ). of_bits f b) (same_bits f x y s a c C v w) ∙ of_bits-to_bits f y q

-- ---- a quotient of 53 digits has 53 + j in units of 2 ^ -j
size_gt : (n j : ℕ) → 2 ^ j ≤ n → j < size n
size_gt n j h = lt_of_not-le (λ (g : size n ≤ j). not-le_of_lt (lt_of_lt_of_le (size-lt n) (pow_mono g)) h)

digits : (m d j : ℕ) → 0 < d → 2 ^ 52 * d ≤ m → m < 2 ^ 53 * d → size (m * 2 ^ j / d) ≡ 53 + j
digits m d j D lo hi =
    let a : 2 ^ (52 + j) * d ≤ m * 2 ^ j = le_trans (le_of_eq (ap (λ (z : ℕ). z * d) (pow-add 2 52 j) ∙ mul_right_comm (2 ^ 52) (2 ^ j) d)) (mul-le-mul_right (2 ^ j) lo) in
    let b : m * 2 ^ j < 2 ^ (53 + j) * d = lt_of_lt_of_le (mul-lt-mul_of_pos_right hi (pow_pos j)) (le_of_eq (mul_right_comm (2 ^ 53) d (2 ^ j) ∙ ap (λ (z : ℕ). z * d) (sym (pow-add 2 53 j)))) in
    let c = size_gt (m * 2 ^ j / d) (52 + j) ((le-div_iff_mul-le D).1 a) in
    let e = size-le (m * 2 ^ j / d) (53 + j) ((div-lt_iff_lt-mul D).1 b) in
    omega arith

-- so `round` keeps the nearest whole number to it
kept : (s : Bool) (n d k j : ℕ) → 0 < d → k + j ≡ 1074 → 2 ^ 52 * d ≤ n * 2 ^ k → n * 2 ^ k < 2 ^ 53 * d → round binary64 s n d ≡ units binary64 s (closest (n * 2 ^ k) d) j
kept s n d k j D K lo hi =
    let w : n * 2 ^ 1074 ≡ n * 2 ^ k * 2 ^ j = ap (λ (z : ℕ). n * 2 ^ z) (sym K) ∙ ap (λ (z : ℕ). n * z) (pow-add 2 k j) ∙ sym (mul_assoc n (2 ^ k) (2 ^ j)) in
    let z : size (n * 2 ^ k * 2 ^ j / d) ≡ 53 + j = digits (n * 2 ^ k) d j D lo hi in
    let dropped : size (n * 2 ^ 1074 / d) - 53 ≡ j = ap (λ (x : ℕ). size (x / d) - 53) w ∙ (let e : size (n * 2 ^ k * 2 ^ j / d) - 53 ≡ j = omega arith in e) in
    round_is binary64 s n d
    ∙ ap (λ (x : ℕ). units binary64 s (closest (n * 2 ^ 1074) (d * 2 ^ x)) x) dropped
    ∙ ap (λ (x : ℕ). units binary64 s x j)
    (closest_same (n * 2 ^ 1074) (d * 2 ^ j) (n * 2 ^ k) d (mul-pos D (pow_pos j)) D (ap (λ (x : ℕ). x * d) w ∙ mul_assoc (n * 2 ^ k) (2 ^ j) d ∙ ap (λ (x : ℕ). n * 2 ^ k * x) (mul_comm (2 ^ j) d)))

-- ---- a whole number of 53 digits, in those units, is a value
pub value : (s : Bool) (q j : ℕ) → q ≤ 2 ^ 53 → j ≤ 2000 → HasValue (round binary64 s (q * 2 ^ j) (2 ^ 1074)) s (q * 2 ^ j) (2 ^ 1074)
value s q j h i = go (eq-or-lt_of_le h)
  where
    go : (q ≡ 2 ^ 53) ⊎ (q < 2 ^ 53) → HasValue (round binary64 s (q * 2 ^ j) (2 ^ 1074)) s (q * 2 ^ j) (2 ^ 1074)
    go (inl e) =
        round_exact binary64 s (q * 2 ^ j) (2 ^ 1074) 1 (53 + j) (pow_pos 1074) (lit< tt)
        (subst (λ (x : ℕ). x < 2 ^ 2098) (sym (one-mul (2 ^ (53 + j)))) (pow-lt {j = 2098} (omega arith)))
        (ap (λ (x : ℕ). x * 2 ^ 1074) (ap (λ (x : ℕ). x * 2 ^ j) e ∙ sym (pow-add 2 53 j) ∙ sym (one-mul (2 ^ (53 + j)))))
    go (inr l) =
        round_exact binary64 s (q * 2 ^ j) (2 ^ 1074) q j (pow_pos 1074) l
        (lt_of_lt_of_le (mul-lt-mul_of_pos_right l (pow_pos j)) (le_trans (le_of_eq (sym (pow-add 2 53 j))) (pow_mono {j = 2098} (omega arith))))
        refl

pub long : (s : Bool) (n d k : ℕ) → 0 < d → k ≤ 1074 → 2 ^ 52 * d ≤ n * 2 ^ k → n * 2 ^ k < 2 ^ 53 * d → round binary64 s n d ≡ round binary64 s (closest (n * 2 ^ k) d) (2 ^ k)
long s n d k D K lo hi =
    let j = 1074 - k in
    let J : k + j ≡ 1074 = omega arith in
    let q = closest (n * 2 ^ k) d in
    let Q : q ≤ 2 ^ 53 = le_trans (nearest-le (n * 2 ^ k / d) (compare (n * 2 ^ k % d * 2) d)) ((div-lt_iff_lt-mul D).1 hi) in
    let small : q * 2 ^ j < 2 ^ 2098 = lt_of_le_of_lt (mul-le-mul_right (2 ^ j) Q) (lt_of_le_of_lt (le_of_eq (sym (pow-add 2 53 j))) (pow-lt {j = 2098} (omega arith))) in
    let same : round binary64 s n d ≡ units binary64 s q j = kept s n d k j D J lo hi in
    unique binary64 (round binary64 s n d) (round binary64 s (q * 2 ^ j) (2 ^ 1074)) s (q * 2 ^ j) (2 ^ 1074) (pow_pos 1074) (round-fits binary64 s n d) (round-fits binary64 s (q * 2 ^ j) (2 ^ 1074))
    (subst (λ (x : Float). HasValue x s (q * 2 ^ j) (2 ^ 1074)) (sym same) (units_val binary64 s q j small))
    (value s q j Q (omega arith))
    ∙ round_same binary64 s (q * 2 ^ j) (2 ^ 1074) q (2 ^ k) (pow_pos 1074) (pow_pos k) (mul_assoc q (2 ^ j) (2 ^ k) ∙ ap (λ (x : ℕ). q * x) (mul_comm (2 ^ j) (2 ^ k) ∙ sym (pow-add 2 k j) ∙ ap (λ (x : ℕ). 2 ^ x) J))

-- ---- the loop that finds such a k
pub begin : (n d : ℕ) → 9007199254740992 ≤ n → n < 18446744073709551616 → 4096 ≤ d → d ≤ 1125899906842624 → Divided n d (n / d) (n % d) 1 0
begin n d N M lo hi =
    let D : 0 < d = omega arith in
    record {
      sum = mul-one n ∙ sym (div-add-mod' n d);
      rest = mod-lt n D;
      power = refl;
      some = omega arith;
      few = omega arith;
      wide = (le-div_iff_mul-le D).1 (omega arith);
      short = (div-lt_iff_lt-mul D).1 (omega arith);
    }

pub further : {n d q r p k : ℕ} → 0 < d → q < 4503599627370496 → Divided n d q r p k → Divided n d (q * 2 + r * 2 / d) (r * 2 % d) (p * 2) (k + 1)
further {n} {d} {q} {r} {p} {k} D h x =
    let e : r * 2 / d * d + r * 2 % d ≡ r * 2 = div-add-mod' (r * 2) d in
    let s : n * p ≡ q * d + r = x.sum in
    let a : n * (p * 2) ≡ n * p * 2 = sym (mul_assoc n p 2) in
    let b : (q * 2 + r * 2 / d) * d ≡ q * d * 2 + r * 2 / d * d = add-mul (q * 2) (r * 2 / d) d ∙ ap (λ (z : ℕ). z + r * 2 / d * d) (mul_right_comm q 2 d) in
    let c : r * 2 / d < 2 = (div-lt_iff_lt-mul D).1 (let l : r < d = x.rest in omega arith) in
    let w : 8 * p ≤ q = x.wide in
    let o : 1 ≤ p = x.some in
    let y : k ≤ p = x.few in
    record {
      sum = omega arith;
      rest = mod-lt (r * 2) D;
      power = ap (λ (z : ℕ). z * 2) x.power ∙ sym (pow-suc 2 k) ∙ ap (λ (z : ℕ). 2 ^ z) (sym (add-one k));
      some = omega arith;
      few = omega arith;
      wide = omega arith;
      short = omega arith;
    }

-- ---- the nearest whole number, by the remainder
nearest_less : (q t d : ℕ) → t < d → nearest q (compare t d) ≡ q
nearest_less q t d h = go (compare t d) (nleb→lt t d) (eqb→eq t d)
  where
    go : (o : Ordering) → (T (not (is_le o)) → d < t) → (T (compare_is_eq o) → t ≡ d) → nearest q o ≡ q
    go Ordering.lt g e = refl
    go Ordering.eq g e = let x = e tt in absurd (omega arith)
    go Ordering.gt g e = let x = g tt in absurd (omega arith)

nearest_more : (q t d : ℕ) → d < t → nearest q (compare t d) ≡ suc q
nearest_more q t d h = go (compare t d) (leb→le t d)
  where
    go : (o : Ordering) → (T (is_le o) → t ≤ d) → nearest q o ≡ suc q
    go Ordering.lt g = let x = g tt in absurd (omega arith)
    go Ordering.eq g = let x = g tt in absurd (omega arith)
    go Ordering.gt g = refl

nearest_tie : (q t d : ℕ) → t ≡ d → nearest q (compare t d) ≡ q + q % 2
nearest_tie q t d h = go (compare t d) (subst (λ (x : ℕ). T (eqb t x)) h (eqb_refl t))
  where
    go : (o : Ordering) → T (compare_is_eq o) → nearest q o ≡ q + q % 2
    go Ordering.lt e = absurd e
    go Ordering.eq e = refl
    go Ordering.gt e = absurd e

few : (p k : ℕ) → p ≡ 2 ^ k → p < 2 ^ 50 → k ≤ 1074
few p k e h =
    let g : k < 50 = lt_of_not-le (λ (g : 50 ≤ k). not-le_of_lt (subst (λ (z : ℕ). z < 2 ^ 50) e h) (pow_mono g)) in
    omega arith

-- what a division that has all digits rounds to
found : {n d q r p k : ℕ} → 0 < d → 4503599627370496 ≤ q → Divided n d q r p k → (z : ℕ) → nearest q (compare (r * 2) d) ≡ z → round binary64 false z p ≡ round binary64 false n d
found {n} {d} {q} {r} {p} {k} D h x z e =
    let s : n * 2 ^ k ≡ q * d + r = ap (λ (z : ℕ). n * z) (sym x.power) ∙ x.sum in
    let R : r < d = x.rest in
    let whole : n * 2 ^ k / d ≡ q = ap (λ (z : ℕ). z / d) s ∙ mul-add-div_right D q r ∙ (let a : r / d ≡ 0 = div-eq_of_lt R in let b : q + r / d ≡ q = omega arith in b) in
    let over : n * 2 ^ k % d ≡ r = ap (λ (z : ℕ). z % d) s ∙ mul-add-mod_self_right q d r ∙ mod-eq_of_lt R in
    let lo : 2 ^ 52 * d ≤ n * 2 ^ k = le_trans (mul-le-mul_right d h) (let a : q * d ≤ n * 2 ^ k = omega arith in a) in
    let up : (q + 1) * d ≤ 2 ^ 53 * d = mul-le-mul_right d (let a : q < 2 ^ 53 = x.short in let b : q + 1 ≤ 2 ^ 53 = omega arith in b) in
    let m : (q + 1) * d ≡ q * d + d = add-mul q 1 d ∙ ap (λ (z : ℕ). q * d + z) (one-mul d) in
    let hi : n * 2 ^ k < 2 ^ 53 * d = omega arith in
    let K : k ≤ 1074 = few p k x.power (let a : 8 * p ≤ q = x.wide in let b : q < 2 ^ 53 = x.short in let c : p < 2 ^ 50 = omega arith in c) in
    let near : closest (n * 2 ^ k) d ≡ z = ap (λ (w : ℕ). nearest w (compare (n * 2 ^ k % d * 2) d)) whole ∙ ap (λ (w : ℕ). nearest q (compare (w * 2) d)) over ∙ e in
    sym (long false n d k D K lo hi ∙ ap (λ (w : ℕ). round binary64 false w (2 ^ k)) near ∙ ap (λ (w : ℕ). round binary64 false z w) (sym x.power))

module _ {n d q r p k : ℕ} (D : 0 < d) (h : 4503599627370496 ≤ q) (x : Divided n d q r p k) where
  pub down_to : r * 2 < d → round binary64 false q p ≡ round binary64 false n d
  down_to l = found D h x q (nearest_less q (r * 2) d l)

  pub up_to : d < r * 2 → round binary64 false (q + 1) p ≡ round binary64 false n d
  up_to l = found D h x (q + 1) (nearest_more q (r * 2) d l ∙ sym (add-one q))

  pub to_even : r * 2 ≡ d → round binary64 false (q + q % 2) p ≡ round binary64 false n d
  to_even e = found D h x (q + q % 2) (nearest_tie q (r * 2) d e)

-- ---- a rounded fraction negated
neg_odd : (d q k l : ℕ) → neg (odd d false q k l) ≡ odd d true q k l
unfolding neg odd
neg_odd d zero k l = refl
neg_odd d (suc q) k l = refl

pub neg_round : (n d : ℕ) → neg (round binary64 false n d) ≡ round binary64 true n d
unfolding units neg
neg_round n d =
    let j = size (n * 2 ^ 1074 / d) - 53 in
    let q = closest (n * 2 ^ 1074) (d * 2 ^ j) in
    ap neg (round_is binary64 false n d) ∙ go (ltb (q * 2 ^ j) (2 ^ 2098)) q j ∙ sym (round_is binary64 true n d)
  where
    go : (b : Bool) (q j : ℕ) → neg (cond b (odd 54 false q j 1074) (inf false)) ≡ cond b (odd 54 true q j 1074) (inf true)
    go true q j = neg_odd 54 q j 1074
    go false q j = refl
