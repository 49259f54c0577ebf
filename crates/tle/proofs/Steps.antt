-- One turn of each loop, and its end.
use mathlib.Core.Path.{◌≡◌}
use mathlib.Core.List.{List, [], ◌∷◌}
use Prim.Native.Nat.{ℕ, ◌<◌, ◌≤◌, ◌+◌, ◌*◌, ◌^◌}
use native.Mathlib.Numerals.{add-one}
use native.Mathlib.Nat.{pow-le-pow_right, pow-suc}
use native.Mathlib.Omega.{arith}
use lib.ListN.{length, drop, take, get_or, drop_of_length-le, length-take, length-drop}
use lib.Seq.{drop-cons}
use Rattle.columns.specs.Sum.{digit_of}
use Rattle.columns.proofs.Sums.{digit_below}
use Rattle.tle.specs.Number.{value_on, field}

module _ (s : List ℕ) (i : ℕ) where
  pub value_more : (a : ℕ) → i < length s → value_on a (drop i s) ≡ value_on (a * 10 + digit_of (get_or s i 0)) (drop (i + 1) s)
  unfolding value_on
  value_more a h = rw (add-one, drop-cons s i 0)

  pub value_done : (a : ℕ) → length s ≤ i → value_on a (drop i s) ≡ a
  unfolding value_on
  value_done a h = rw (drop_of_length-le s h)

-- a number of i places with one place more
pub places : (a d i : ℕ) → a < 10 ^ i → d ≤ 9 → a * 10 + d < 10 ^ (i + 1)
places a d i h g = rw (add-one, pow-suc) (omega arith)

pub small : (a i : ℕ) → a < 10 ^ i → i < 18 → a < 100000000000000000
small a i h g = omega (arith, pow-le-pow_right {n = 10} (omega arith) {i = i} {j = 17} (omega arith))

pub part_length : (l : List ℕ) (at w : ℕ) → at + w ≤ length l → length (take w (drop at l)) ≡ w
part_length l at w h = simp (length-take, length-drop) (omega arith)

-- a number below n, with the places of s after it
pub value_below : (s : List ℕ) (a n : ℕ) → a < n → value_on a s < n * 10 ^ length s
unfolding value_on
value_below [] a n h = omega arith
value_below (b ∷ s) a n h =
    rw pow-suc (omega (arith, value_below s (a * 10 + digit_of b) (n * 10) (omega (arith, digit_below b))))

pub value_after : (a : ℕ) (s : List ℕ) → value_on a s ≡ a * 10 ^ length s + value_on 0 s
unfolding value_on
value_after a [] = omega arith
value_after a (b ∷ s) =
    rw pow-suc (omega (arith, value_after (a * 10 + digit_of b) s, value_after (0 * 10 + digit_of b) s))

-- a field of w columns is below 10 ^ w
pub field_below : (at w : ℕ) (line : List ℕ) → field at w line < 10 ^ w
field_below at w line =
    let n = length (take w (drop at line)) in
    let h = value_below (take w (drop at line)) 0 1 (omega arith) in
    let short : n ≤ w = simp length-take (omega arith) in
    omega (arith, h, pow-le-pow_right {n = 10} (omega arith) {i = n} {j = w} short)
