-- The whole number nearest to a fraction, by its quotient and remainder. Assumes nothing.
use mathlib.Core.Path.{◌≡◌, refl, sym, ap, ◌∙◌}
use Prim.Native.Nat.{ℕ, suc, ◌+◌, ◌-◌, ◌*◌, ◌/◌, ◌%◌, ◌≤◌, ◌<◌, compare, Ordering}
use native.Mathlib.Nat.{div-add-mod', mod-lt, mul-le-mul, div-le_self}
use native.Mathlib.Numerals.{add-one}
use native.Mathlib.Omega.{arith}
use mathlib.Core.Bool.{true, false}
use lib.Arith.{digits_div, digits_mod}
use lib.Dec.{is_le, compare_is_eq}
use lib.Ieee.{nearest}
use borrow.Author.Tests.{le-leb, lt-leb, eq-eqb, ne_eqb}
use Rattle.decimals.specs.Fixed.{nearest_whole}

-- ---- what `compare` says
compare_less : (a b : ℕ) → a < b → compare a b ≡ Ordering.lt
compare_less a b h = go (compare a b) (le-leb a b (omega arith)) (ne_eqb a b (λ e. omega arith))
  where
    go : (o : Ordering) → is_le o ≡ true → compare_is_eq o ≡ false → o ≡ Ordering.lt
    go Ordering.lt p q = refl
    go Ordering.eq p q = cc
    go Ordering.gt p q = cc

compare_more : (a b : ℕ) → b < a → compare a b ≡ Ordering.gt
compare_more a b h = go (compare a b) (lt-leb a b h)
  where
    go : (o : Ordering) → is_le o ≡ false → o ≡ Ordering.gt
    go Ordering.lt p = cc
    go Ordering.eq p = cc
    go Ordering.gt p = refl

compare_equal : (a b : ℕ) → a ≡ b → compare a b ≡ Ordering.eq
compare_equal a b h = go (compare a b) (eq-eqb a b h)
  where
    go : (o : Ordering) → compare_is_eq o ≡ true → o ≡ Ordering.eq
    go Ordering.lt p = cc
    go Ordering.eq p = refl
    go Ordering.gt p = cc

-- ---- by a quotient and a remainder
by_rest : (a c q r : ℕ) → a ≡ q * c + r → r < c → nearest_whole a c ≡ nearest q (compare (r * 2) c)
by_rest a c q r e h =
    ap (λ (z : ℕ). nearest (z / c) (compare (z % c * 2) c)) e
    ∙ ap (λ (z : ℕ). nearest z (compare ((q * c + r) % c * 2) c)) (digits_div q h)
    ∙ ap (λ (z : ℕ). nearest q (compare (z * 2) c)) (digits_mod q h)

pub below_half : (a c q r : ℕ) → a ≡ q * c + r → r * 2 < c → nearest_whole a c ≡ q
below_half a c q r e h = by_rest a c q r e (omega arith) ∙ ap (nearest q) (compare_less (r * 2) c h)

pub above_half : (a c q r : ℕ) → a ≡ q * c + r → r < c → c < r * 2 → nearest_whole a c ≡ suc q
above_half a c q r e l h = by_rest a c q r e l ∙ ap (nearest q) (compare_more (r * 2) c h)

pub at_half : (a c q r : ℕ) → a ≡ q * c + r → r < c → r * 2 ≡ c → nearest_whole a c ≡ q + q % 2
at_half a c q r e l h = by_rest a c q r e l ∙ ap (nearest q) (compare_equal (r * 2) c h)

-- ---- an even number added
nearest_even : (k q : ℕ) (o : Ordering) → nearest (2 * k + q) o ≡ 2 * k + nearest q o
nearest_even k q Ordering.lt = refl
nearest_even k q Ordering.eq = omega arith
nearest_even k q Ordering.gt = omega arith

pub even_more : (k a c : ℕ) → 1 ≤ c → nearest_whole (2 * k * c + a) c ≡ 2 * k + nearest_whole a c
even_more k a c h =
    let d = div-add-mod' a c in
    let e : 2 * k * c + a ≡ (2 * k + a / c) * c + a % c = omega arith in
    by_rest (2 * k * c + a) c (2 * k + a / c) (a % c) e (mod-lt a h) ∙ nearest_even k (a / c) (compare (a % c * 2) c)

-- ---- a product in two words of 32 bits, divided: `l * ten` and `h * ten` with what the first carries
pub words : (h l ten lh ll q r d : ℕ) → lh * 4294967296 + ll ≡ l * ten → q * d + r ≡ h * ten + lh
    → (h * 4294967296 + l) * ten ≡ q * (4294967296 * d) + (r * 4294967296 + ll)
words h l ten lh ll q r d e f = omega arith

-- 2 ^ 32 and 2 ^ 31
abbrev pub B : ℕ
B = 4294967296

abbrev pub half : ℕ
half = 2147483648

abbrev pub low : ℕ → ℕ → ℕ
low part ten = part % B * ten

abbrev pub middle : ℕ → ℕ → ℕ
middle part ten = part / B * ten + low part ten / B

abbrev pub rest : ℕ → ℕ → ℕ → ℕ
rest part ten down = middle part ten % down * 2 + low part ten % B / half

module _ (part ten : ℕ) (p : part < 9007199254740992) (t : ten ≤ 1000000000) where
  pub low_most : low part ten ≤ 4294967295000000000
  low_most = let h : part % B ≤ 4294967295 = omega arith in mul-le-mul h t

  pub high_most : part / B * ten ≤ 2097151000000000
  high_most = let h : part / B ≤ 2097151 = omega arith in mul-le-mul h t

  pub middle_most : middle part ten ≤ 2097152000000000
  middle_most = let h = high_most in let l = low_most in omega arith

module _ (part ten down : ℕ) (d : 1 ≤ down) where
  pub rest_lt : middle part ten % down < down
  rest_lt = mod-lt (middle part ten) d

  abbrev r : ℕ
  r = middle part ten % down * B + low part ten % B

  is : part * ten ≡ middle part ten / down * (B * down) + r
  is =
      ap (λ (z : ℕ). z * ten) (sym (div-add-mod' part B))
      ∙ words (part / B) (part % B) ten (low part ten / B) (low part ten % B) (middle part ten / down) (middle part ten % down) down (div-add-mod' (low part ten) B) (div-add-mod' (middle part ten) down)

  less : r < B * down
  less = let h = rest_lt in let l : low part ten % B < B = omega arith in omega arith

  pub part_below : rest part ten down < down → middle part ten / down ≡ nearest_whole (part * ten) (B * down)
  part_below h = sym (below_half (part * ten) (B * down) (middle part ten / down) r is (omega arith))

  pub part_above : down < rest part ten down → middle part ten / down + 1 ≡ nearest_whole (part * ten) (B * down)
  part_above h = add-one (middle part ten / down) ∙ sym (above_half (part * ten) (B * down) (middle part ten / down) r is less (omega arith))

  pub part_more : rest part ten down ≡ down → 0 < low part ten % half → middle part ten / down + 1 ≡ nearest_whole (part * ten) (B * down)
  part_more h g = add-one (middle part ten / down) ∙ sym (above_half (part * ten) (B * down) (middle part ten / down) r is less (omega arith))

  pub part_half : rest part ten down ≡ down → low part ten % half ≡ 0 → middle part ten / down + middle part ten / down % 2 ≡ nearest_whole (part * ten) (B * down)
  part_half h g = sym (at_half (part * ten) (B * down) (middle part ten / down) r is less (omega arith))
