-- Zeros, and equal bytes, byte by byte.
use Prim.Native.Nat.{ℕ, zero, suc, ◌+◌, ◌<◌, ◌≤◌}
use mathlib.Core.Path.{◌≡◌, refl, ap, sym, ◌∙◌}
use mathlib.Core.Bool.{Bool, true, false, ◌&&◌}
use mathlib.Core.List.{List, [], ◌∷◌}
use native.Mathlib.Numerals.{add-one}
use native.Mathlib.Omega.{arith}
use borrow.Author.Tests.{eq-eqb, ne_eqb, eqb-true}
use lib.Dec.{eqb}
use lib.Pointwise.{pointwise}
use lib.ListN.{length, drop, get_or, replicate, drop_of_length-le}
use lib.Seq.{drop-cons}
use Rattle.tle_writer.proofs.Facts.{both}
use Rattle.roster.specs.Roster.{all_zero, same}

-- ── zeros ──

pub zero_more : (clear : Bool) (s : List ℕ) (i : ℕ) → i < length s
    → clear && all_zero (drop i s) ≡ (clear && eqb (get_or s i 0) 0) && all_zero (drop (i + 1) s)
unfolding all_zero
zero_more true s i h = rw (add-one, drop-cons s i 0 h)
zero_more false s i h = refl

pub zero_end : (clear : Bool) (s : List ℕ) (i : ℕ) → length s ≤ i → clear && all_zero (drop i s) ≡ clear
unfolding all_zero
zero_end true s i h = rw (drop_of_length-le s {i = i} h)
zero_end false s i h = refl

-- the first byte tells
pub zero_first : (s : List ℕ) → 0 < length s → (get_or s 0 0 ≡ 0 → ⊥) → false ≡ all_zero s
unfolding all_zero
zero_first [] h n = absurd (omega arith)
zero_first (x ∷ s) h n = rw (ne_eqb x 0 n)

pub zero_replicate : (s : List ℕ) → all_zero s ≡ true → s ≡ replicate (length s) 0
unfolding all_zero
zero_replicate [] h = refl
zero_replicate (x ∷ s) h =
    let p = both (eqb x 0) (all_zero s) h in
    ap (λ (n : ℕ). n ∷ s) (eqb-true x 0 p.0) ∙ ap (λ (t : List ℕ). 0 ∷ t) (zero_replicate s p.1)

pub replicate_zero : (n : ℕ) → all_zero (replicate n 0) ≡ true
unfolding all_zero
replicate_zero zero = refl
replicate_zero (suc n) = replicate_zero n

-- ── equal bytes ──

pub same_equal : (a b : List ℕ) → same a b ≡ true → a ≡ b
unfolding same
same_equal [] [] h = refl
same_equal [] (y ∷ b) h = cc
same_equal (x ∷ a) [] h = cc
same_equal (x ∷ a) (y ∷ b) h =
    let p = both (eqb x y) (same a b) h in
    ap (λ (n : ℕ). n ∷ a) (eqb-true x y p.0) ∙ ap (λ (t : List ℕ). y ∷ t) (same_equal a b p.1)

pub same_refl : (a : List ℕ) → same a a ≡ true
unfolding same
same_refl [] = refl
same_refl (x ∷ a) = rw (eq-eqb x x refl) (same_refl a)

-- as `==` has it
pub same_pointwise : (a b : List ℕ) → pointwise eqb a b ≡ same a b
unfolding same
same_pointwise [] [] = refl
same_pointwise [] (y ∷ b) = refl
same_pointwise (x ∷ a) [] = refl
same_pointwise (x ∷ a) (y ∷ b) = rw (same_pointwise a b) refl

-- a test that holds of equal bytes alone
pub same_as : (x y : Bool) (a b : List ℕ) → same a b ≡ y → (x ≡ true → a ≡ b) → (a ≡ b → x ≡ true) → x ≡ y
same_as x true a b h f g = g (same_equal a b h)
same_as true false a b h f g = sym (ap (same a) (sym (f refl)) ∙ same_refl a) ∙ h
same_as false false a b h f g = refl
