-- The column after those that agree is the first at which no lawful line agrees so far.
use Prim.Native.Nat.{ℕ, suc, ◌-◌}
use mathlib.Core.Path.{◌≡◌, refl, ap, sym, ◌∙◌}
use mathlib.Core.List.{List, [], ◌∷◌}
use mathlib.Core.Bool.{Bool, cond, true, false, ◌&&◌}
use native.Mathlib.Omega.{arith}
use lib.Dec.{T, eqb}
use lib.ListN.{length, take}
use Rattle.columns.specs.Layout.{fits, agreed, layout1, layout2}
use Rattle.columns.specs.Claims.{FirstOf, FirstFaults}

-- a byte that may stand in a column
unfoldable fill : ℕ → Bool → ℕ
fill c a = cond (fits c a c) c (cond (fits c a 32) 32 (cond (fits c a 48) 48 (cond (fits c a 43) 43 (cond (fits c a 65) 65 85))))

-- every column has such a byte, after a blank and after another
abbrev fillable : List ℕ → Bool
unfolding fill
fillable [] = true
fillable (c ∷ cs) = fits c true (fill c true) && fits c false (fill c false) && fillable cs

both : (a b c : Bool) → T (a && b && c) → (a ≡ true) × (b ≡ true) × T c
both true true c t = (refl, refl, t)
both true false c t = absurd t
both false b c t = absurd t

filled : (c : ℕ) (cs : List ℕ) (a : Bool) → T (fillable (c ∷ cs)) → fits c a (fill c a) ≡ true
unfolding fill
filled c cs true t = (both (fits c true (fill c true)) (fits c false (fill c false)) (fillable cs) t).0
filled c cs false t = (both (fits c true (fill c true)) (fits c false (fill c false)) (fillable cs) t).1

rest : (c : ℕ) (cs : List ℕ) → T (fillable (c ∷ cs)) → T (fillable cs)
unfolding fill
rest c cs t = (both (fits c true (fill c true)) (fits c false (fill c false)) (fillable cs) t).2

-- a line that keeps the layout, and agrees with bs in n columns
abbrev Goes : List ℕ → Bool → ℕ → List ℕ → Type 0
Goes cs a n bs = (l : List ℕ) × (length l ≡ length cs) × (agreed cs a l ≡ length cs) × (take n l ≡ take n bs)

module _ (c : ℕ) (cs : List ℕ) (a : Bool) (t : T (fillable (c ∷ cs))) (rec : (a : Bool) (bs : List ℕ) → Goes cs a (agreed cs a bs) bs) where
  anew : (bs : List ℕ) → Goes (c ∷ cs) a 0 bs
  unfolding agreed
  anew bs =
      let r = rec (eqb (fill c a) 32) [] in
      (fill c a ∷ r.0, ap suc r.1, rw (filled c cs a t) (ap suc r.2), refl)

  on : (b : ℕ) (bs : List ℕ) (t : Bool) → fits c a b ≡ t → Goes (c ∷ cs) a (agreed (c ∷ cs) a (b ∷ bs)) (b ∷ bs)
  unfolding agreed
  on b bs true e =
      let r = rec (eqb b 32) bs in
      rw e (b ∷ r.0, ap suc r.1, rw e (ap suc r.2), ap (λ (l : List ℕ). b ∷ l) r.3)
  on b bs false e = rw e (anew (b ∷ bs))

goes : (cs : List ℕ) → T (fillable cs) → (a : Bool) (bs : List ℕ) → Goes cs a (agreed cs a bs) bs
unfolding agreed
goes [] t a bs = ([], refl, refl, refl)
goes (c ∷ cs) t a [] = anew c cs a t (goes cs (rest c cs t)) []
goes (c ∷ cs) t a (b ∷ bs) = on c cs a t (goes cs (rest c cs t)) b bs (fits c a b) refl

-- what agrees one column further agrees no further
same_at : (c : ℕ) (cs : List ℕ) (a : Bool) (b : ℕ) (bs : List ℕ) (x : ℕ) (l : List ℕ) →
    (rec : (a : Bool) (bs l : List ℕ) → length l ≡ length bs → take (suc (agreed cs a bs)) l ≡ take (suc (agreed cs a bs)) bs → agreed cs a l ≡ agreed cs a bs) →
    (t : Bool) → fits c a b ≡ t → length l ≡ length bs →
    take (suc (agreed (c ∷ cs) a (b ∷ bs))) (x ∷ l) ≡ take (suc (agreed (c ∷ cs) a (b ∷ bs))) (b ∷ bs) → agreed (c ∷ cs) a (x ∷ l) ≡ agreed (c ∷ cs) a (b ∷ bs)
unfolding agreed
same_at c cs a b bs x l rec true e n h =
    let h' = rw e at h in
    let xb : x ≡ b = cc in
    let tl : take (suc (agreed cs (eqb b 32) bs)) l ≡ take (suc (agreed cs (eqb b 32) bs)) bs = cc in
    rw (xb, e) (ap suc (rec (eqb b 32) bs l n tl))
same_at c cs a b bs x l rec false e n h =
    let h' = rw e at h in
    let xb : x ≡ b = cc in
    rw (xb, e)

same : (cs : List ℕ) (a : Bool) (bs l : List ℕ) → length l ≡ length bs → take (suc (agreed cs a bs)) l ≡ take (suc (agreed cs a bs)) bs → agreed cs a l ≡ agreed cs a bs
unfolding agreed
same [] a bs l n h = refl
same (c ∷ cs) a [] [] n h = refl
same (c ∷ cs) a [] (x ∷ l) n h = let z : ◌≡◌ {A = List ℕ} (x ∷ l) [] = cc in absurd (omega (arith, ap length z))
same (c ∷ cs) a (b ∷ bs) [] n h = absurd (omega arith)
same (c ∷ cs) a (b ∷ bs) (x ∷ l) n h = same_at c cs a b bs x l (same cs) (fits c a b) refl (omega arith) h

module _ (layout : List ℕ) (t : T (fillable layout)) where
  first_of : FirstOf layout
  first_of line column long short e =
      let n = agreed layout true line in
      let r = goes layout t true line in
      let e₀ : column - 1 ≡ n = omega arith in
      let e₁ : column ≡ suc n = omega arith in
      record {
        before = rw e₀ (r.0, (r.1, r.2), r.3);
        at = λ k. short (sym (same layout true line k.0 (k.1.0 ∙ sym long) (rw e₁ at k.2)) ∙ k.1.1);
      }

pub first_faults : FirstFaults
unfolding fill
first_faults = (first_of layout1 tt, first_of layout2 tt)
