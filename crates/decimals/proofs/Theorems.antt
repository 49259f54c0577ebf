-- The claims of specs/Claims.
use mathlib.Core.Path.{◌≡◌, refl, sym, ap, ◌∙◌, subst}
use Prim.Native.Nat.{ℕ, suc, ◌+◌, ◌-◌, ◌*◌, ◌/◌, ◌%◌, ◌^◌, ◌≤◌, ◌<◌}
use native.Mathlib.Nat.{div-add-mod', mod-lt, suc-mul, add-mul, mul-le-mul_right, one-mul, zero-mul}
use native.Mathlib.Omega.{arith}
use mathlib.Core.Bool.{Bool, true, false}
use lib.Dec.{ltb, eqb}
use lib.Ieee.{up, down}
use lib.Ieee.Fits.{down_pos}
use borrow.Author.Tests.{ltb-true, ltb-false, eqb-true, eqb-false}
use Rattle.decimals.specs.Fixed.{nearest_whole, units_of}
use Rattle.decimals.specs.Claims.{apart, HalfAUnit, NoneNearer, TiesToEven}
use Rattle.decimals.proofs.Near.{below_half, above_half, at_half}

-- n * c lies within c / 2 of a, and where it lies that far off n is even
record Within (a c n : ℕ) : Type 0 where
  low : 2 * a ≤ 2 * (n * c) + c
  high : 2 * (n * c) ≤ 2 * a + c
  low_tie : 2 * a ≡ 2 * (n * c) + c → n % 2 ≡ 0
  high_tie : 2 * (n * c) ≡ 2 * a + c → n % 2 ≡ 0

module _ (a c : ℕ) (l : 0 < c) where
  abbrev q : ℕ
  q = a / c

  abbrev r : ℕ
  r = a % c

  is : a ≡ q * c + r
  is = sym (div-add-mod' a c)

  less : r < c
  less = mod-lt a l

  down_case : r * 2 < c → Within a c q
  down_case h = let e = is in let g = less in record { low = omega arith; high = omega arith; low_tie = λ t. absurd (omega arith); high_tie = λ t. absurd (omega arith) }

  up_case : c < r * 2 → Within a c (suc q)
  up_case h =
      let e = is in
      let g = less in
      let s : suc q * c ≡ q * c + c = suc-mul q c in
      record { low = omega arith; high = omega arith; low_tie = λ t. absurd (omega arith); high_tie = λ t. absurd (omega arith) }

  tie_case : r * 2 ≡ c → Within a c (q + q % 2)
  tie_case h = go (eqb (q % 2) 0) (eqb-true (q % 2) 0) (eqb-false (q % 2) 0)
    where
      even : (q + q % 2) % 2 ≡ 0
      even = omega arith

      go : (b : Bool) → (b ≡ true → q % 2 ≡ 0) → (b ≡ false → q % 2 ≡ 0 → ⊥) → Within a c (q + q % 2)
      go true y n =
          let e = is in
          let z : q % 2 ≡ 0 = y refl in
          let s : (q + q % 2) * c ≡ q * c = add-mul q (q % 2) c ∙ ap (λ (w : ℕ). q * c + w * c) z ∙ ap (λ (w : ℕ). q * c + w) (zero-mul c) ∙ omega arith in
          record { low = omega arith; high = omega arith; low_tie = λ t. even; high_tie = λ t. even }
      go false y n =
          let e = is in
          let m = n refl in
          let z : q % 2 ≡ 1 = omega arith in
          let s : (q + q % 2) * c ≡ q * c + c = add-mul q (q % 2) c ∙ ap (λ (w : ℕ). q * c + w * c) z ∙ ap (λ (w : ℕ). q * c + w) (one-mul c) in
          record { low = omega arith; high = omega arith; low_tie = λ t. even; high_tie = λ t. even }

  within : Within a c (nearest_whole a c)
  within = go (ltb (r * 2) c) (ltb c (r * 2)) (ltb-true (r * 2) c) (ltb-false (r * 2) c) (ltb-true c (r * 2)) (ltb-false c (r * 2))
    where
      go : (b d : Bool) → (b ≡ true → r * 2 < c) → (b ≡ false → c ≤ r * 2) → (d ≡ true → c < r * 2) → (d ≡ false → r * 2 ≤ c) → Within a c (nearest_whole a c)
      go true d y n u v = subst (Within a c) (sym (below_half a c q r is (y refl))) (down_case (y refl))
      go false true y n u v = subst (Within a c) (sym (above_half a c q r is less (u refl))) (up_case (u refl))
      go false false y n u v =
          let x = n refl in
          let w = v refl in
          let t : r * 2 ≡ c = omega arith in
          subst (Within a c) (sym (at_half a c q r is less t)) (tie_case t)

  half_a_unit : 2 * apart (nearest_whole a c * c) a ≤ c
  half_a_unit = let w = within in omega (arith, w.low, w.high)

  -- the others are a whole unit away or more
  beyond : (n k : ℕ) → n < k → n * c + c ≤ k * c
  beyond n k h = let s : suc n * c ≡ n * c + c = suc-mul n c in let g : suc n * c ≤ k * c = mul-le-mul_right c h in omega arith

  none_nearer : (n k : ℕ) → Within a c n → apart (n * c) a ≤ apart (k * c) a
  none_nearer n k w = go (ltb n k) (ltb k n) (ltb-true n k) (ltb-false n k) (ltb-true k n) (ltb-false k n)
    where
      go : (b d : Bool) → (b ≡ true → n < k) → (b ≡ false → k ≤ n) → (d ≡ true → k < n) → (d ≡ false → n ≤ k) → apart (n * c) a ≤ apart (k * c) a
      go true d y m u v = omega (arith, beyond n k (y refl), w.low, w.high)
      go false true y m u v = omega (arith, beyond k n (u refl), w.low, w.high)
      go false false y m u v =
          let x = m refl in
          let z = v refl in
          let t : n ≡ k = omega arith in
          subst (λ (j : ℕ). apart (n * c) a ≤ apart (j * c) a) t (omega arith)

  ties_to_even : (n k : ℕ) → Within a c n → (k ≡ n → ⊥) → apart (k * c) a ≡ apart (n * c) a → n % 2 ≡ 0
  ties_to_even n k w f e = go (ltb n k) (ltb k n) (ltb-true n k) (ltb-false n k) (ltb-true k n) (ltb-false k n)
    where
      go : (b d : Bool) → (b ≡ true → n < k) → (b ≡ false → k ≤ n) → (d ≡ true → k < n) → (d ≡ false → n ≤ k) → n % 2 ≡ 0
      go true d y m u v = w.low_tie (omega (arith, e, l, beyond n k (y refl), w.low, w.high))
      go false true y m u v = w.high_tie (omega (arith, e, l, beyond k n (u refl), w.low, w.high))
      go false false y m u v = let x = m refl in let z = v refl in let t : k ≡ n = omega arith in absurd (f t)

pub rounded_half_a_unit : HalfAUnit
unfolding units_of
rounded_half_a_unit p s m e = half_a_unit (m * up e * 10 ^ p) (down e) (down_pos e)

pub rounded_none_nearer : NoneNearer
unfolding units_of
rounded_none_nearer p s m e k =
    let a = m * up e * 10 ^ p in
    none_nearer a (down e) (down_pos e) (nearest_whole a (down e)) k (within a (down e) (down_pos e))

pub rounded_ties_to_even : TiesToEven
unfolding units_of
rounded_ties_to_even p s m e k f t =
    let a = m * up e * 10 ^ p in
    ties_to_even a (down e) (down_pos e) (nearest_whole a (down e)) k (within a (down e) (down_pos e)) f t
