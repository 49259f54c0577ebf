-- The designator in a lawful line 1 is legal.
use Prim.Native.Nat.{ℕ, zero, suc, ◌<◌}
use mathlib.Core.Path.{◌≡◌, refl, sym, ◌∙◌}
use mathlib.Core.List.{List, [], ◌∷◌}
use mathlib.Core.Bool.{Bool, true, false, not, ◌&&◌, ◌||◌, and-false, or-false}
use native.Mathlib.Omega.{arith}
use borrow.Author.Tests.{leb-true, ne_eqb, lt-ltb}
use lib.Dec.{leb}
use lib.ListN.{length, get_or}
use Rattle.columns.specs.Layout.{is_blank, is_digit, is_letter, fits, agreed, layout1}
use Rattle.tle.specs.Number.{field}
use Rattle.tle.specs.Read.{designator_at}
use Rattle.tle.specs.Legal.{piece_fits, designator_fits}
use Rattle.tle.proofs.Steps.{field_below}

-- the byte before the column after the first i is a blank
abbrev pub after_blank : Bool → List ℕ → ℕ → Bool
after_blank a bs zero = a
after_blank a bs (suc i) = is_blank (get_or bs i 0)

abbrev pub Fits : List ℕ → Bool → List ℕ → ℕ → Type 0
Fits cs a bs i = fits (get_or cs i 0) (after_blank a bs i) (get_or bs i 0) ≡ true

-- every column of a line that agrees with its layout fits its class
column_by : (c b : ℕ) (cs : List ℕ) (a : Bool) (bs : List ℕ) → (t : Bool) → fits c a b ≡ t → agreed (c ∷ cs) a (b ∷ bs) ≡ suc (length cs)
    → (fits c a b ≡ true) × (agreed cs (is_blank b) bs ≡ length cs)
unfolding agreed
column_by c b cs a bs true e h = (e, let h' = rw e at h in omega arith)
column_by c b cs a bs false e h = let h' = rw e at h in absurd (omega arith)

pub column : (cs : List ℕ) (a : Bool) (bs : List ℕ) → agreed cs a bs ≡ length cs → (i : ℕ) → i < length cs → Fits cs a bs i
unfolding agreed
column [] a bs h i k = absurd (omega arith)
column (c ∷ cs) a [] h i k = absurd (omega arith)
column (c ∷ cs) a (b ∷ bs) h zero k = (column_by c b cs a bs (fits c a b) refl h).0
column (c ∷ cs) a (b ∷ bs) h (suc zero) k = column cs (is_blank b) bs (column_by c b cs a bs (fits c a b) refl h).1 zero (omega arith)
column (c ∷ cs) a (b ∷ bs) h (suc (suc i)) k = column cs (is_blank b) bs (column_by c b cs a bs (fits c a b) refl h).1 (suc i) (omega arith)

-- what the classes of the designator ask, by themselves
fits_f : (a : Bool) (b : ℕ) → fits 102 a b ≡ (is_blank b && a || not a && is_digit b)
fits_f a b = simp (and-false, or-false)

fits_L : (a : Bool) (b : ℕ) → fits 76 a b ≡ (is_blank b && a || not a && is_letter b)
fits_L a b = simp (and-false, or-false)

fits_l : (a : Bool) (b : ℕ) → fits 108 a b ≡ (is_blank b || not a && is_letter b)
fits_l a b = simp (and-false, or-false)

-- after a byte that is no blank, the second of two alternatives
second : (blank a other : Bool) → a ≡ false → (blank && a || not a && other) ≡ true → other ≡ true
second blank true other n h = let z : ◌≡◌ {A = ℕ} 0 1 = cc in absurd (omega arith)
second true false other n h = h
second false false other n h = h

left : (a b : Bool) → (a && b) ≡ true → a ≡ true
left true b h = refl
left false b h = h

digit_nonblank : (b : ℕ) → is_digit b ≡ true → is_blank b ≡ false
digit_nonblank b h = ne_eqb b 32 (λ e. omega (arith, leb-true 48 b (left (leb 48 b) (leb b 57) h)))

letter_nonblank : (b : ℕ) → is_letter b ≡ true → is_blank b ≡ false
letter_nonblank b h = ne_eqb b 32 (λ e. omega (arith, leb-true 65 b (left (leb 65 b) (leb b 90) h)))

digit_next : (a : Bool) (b : ℕ) → a ≡ false → fits 102 a b ≡ true → is_blank b ≡ false
digit_next a b n h = digit_nonblank b (second (is_blank b) a (is_digit b) n (sym (fits_f a b) ∙ h))

-- two places of letters or blanks, letters first
letters : (blank₁ letter₁ blank₂ letter₂ : Bool) → (blank₁ || letter₁) ≡ true → (blank₂ || not blank₁ && letter₂) ≡ true
    → ((letter₁ || blank₁) && (letter₂ && letter₁ || blank₂)) ≡ true
letters true true true true h k = refl
letters true true true false h k = refl
letters true true false true h k = refl
letters true true false false h k = k
letters true false true true h k = refl
letters true false true false h k = refl
letters true false false true h k = k
letters true false false false h k = k
letters false true true true h k = refl
letters false true true false h k = refl
letters false true false true h k = refl
letters false true false false h k = k
letters false false true true h k = h
letters false false true false h k = h
letters false false false true h k = h
letters false false false false h k = h

module _ (line : List ℕ) (h : agreed layout1 true line ≡ 69) where
  at : (i : ℕ) → i < 69 → Fits layout1 true line i
  at i k = column layout1 true line h i k

  piece : is_blank (get_or line 9 0) ≡ false → piece_fits (field 9 5 line) (get_or line 14 0) (get_or line 15 0) (get_or line 16 0) ≡ true
  piece n₉ =
      let n₁₀ = digit_next (is_blank (get_or line 9 0)) (get_or line 10 0) n₉ (at 10 (omega arith)) in
      let n₁₁ = digit_next (is_blank (get_or line 10 0)) (get_or line 11 0) n₁₀ (at 11 (omega arith)) in
      let n₁₂ = digit_next (is_blank (get_or line 11 0)) (get_or line 12 0) n₁₁ (at 12 (omega arith)) in
      let n₁₃ = digit_next (is_blank (get_or line 12 0)) (get_or line 13 0) n₁₂ (at 13 (omega arith)) in
      let l₁₄ = second (is_blank (get_or line 14 0)) (is_blank (get_or line 13 0)) (is_letter (get_or line 14 0)) n₁₃ (sym (fits_L (is_blank (get_or line 13 0)) (get_or line 14 0)) ∙ at 14 (omega arith)) in
      let h₁₅ = rw (letter_nonblank (get_or line 14 0) l₁₄) at (sym (fits_l (is_blank (get_or line 14 0)) (get_or line 15 0)) ∙ at 15 (omega arith)) in
      let h₁₆ = sym (fits_l (is_blank (get_or line 15 0)) (get_or line 16 0)) ∙ at 16 (omega arith) in
      rw (lt-ltb (field 9 5 line) 100000 (field_below 9 5 line), l₁₄)
      (letters (is_blank (get_or line 15 0)) (is_letter (get_or line 15 0)) (is_blank (get_or line 16 0)) (is_letter (get_or line 16 0)) h₁₅ h₁₆)

  by : (t : Bool) → is_blank (get_or line 9 0) ≡ t → designator_fits (designator_at line) ≡ true
  unfolding designator_fits designator_at
  by true e = rw e
  by false e = rw e (piece e)

  pub designator_fits_lem : designator_fits (designator_at line) ≡ true
  designator_fits_lem = by (is_blank (get_or line 9 0)) refl
