-- Laws of lists of records by rising number: where a number stands, and what lodging and withdrawing make of the list.
use Prim.Native.Nat.{ℕ, suc, ◌+◌, ◌<◌, ◌≤◌}
use mathlib.Core.Path.{◌≡◌, refl, ap, sym, ◌∙◌}
use mathlib.Core.Bool.{Bool, true, false, cond}
use mathlib.Core.List.{List, [], ◌∷◌, ◌++◌}
use mathlib.Core.Option.{Option, none, some}
use native.Mathlib.Omega.{arith}
use borrow.Author.Tests.{lt-ltb, le-ltb, eq-eqb, ne_eqb, ltb-true, ltb-false, eqb-true, eqb-false}
use lib.Dec.{eqb, ltb}
use lib.ListN.{length}
use Rattle.tle.specs.Legal.{legal}
use Rattle.tle.specs.declared.Record.{Record}
use Rattle.roster.specs.Records.{Rising, end, next, lookup, lodged, withdrawn}

-- how many records have a number below n: the place of n
unfoldable pub below : ℕ → List Record → ℕ
below n [] = 0
below n (r ∷ rs) = cond (ltb r.number n) (suc (below n rs)) (below n rs)

-- ── below every number of a list ──

pub lookup_low : {low : ℕ} {rs : List Record} (n : ℕ) → Rising low rs → n < low → lookup n rs ≡ none
unfolding lookup
lookup_low n end h = refl
lookup_low n (next {r = r} g l q) h = rw (ne_eqb r.number n (λ e. omega arith)) (lookup_low n q (omega arith))

pub below_low : {low : ℕ} {rs : List Record} (n : ℕ) → Rising low rs → n ≤ low → below n rs ≡ 0
unfolding below
below_low n end h = refl
below_low n (next {r = r} g l q) h = rw (le-ltb r.number n (omega arith)) (below_low n q (omega arith))

pub weaker : {low : ℕ} {rs : List Record} (l : ℕ) → l ≤ low → Rising low rs → Rising l rs
weaker l h end = end
weaker {low = low} l h (next {r = r} g k q) = let e : l ≤ r.number = omega arith in next e k q

-- ── where a number stands ──

-- the list cut around the record of the number n
pub record Standing (n : ℕ) (rs : List Record) : Type 0 where
  pub xs : List Record
  pub zs : List Record
  pub s : Record
  pub cut : rs ≡ xs ++ s ∷ zs
  pub place : length xs ≡ below n rs
  pub found : lookup n rs ≡ some s
  pub lodges : (r : Record) → r.number ≡ n → lodged r rs ≡ xs ++ r ∷ zs
  pub leaves : withdrawn n rs ≡ xs ++ zs

-- the list cut where a record of the number n would stand
pub record Missing (n : ℕ) (rs : List Record) : Type 0 where
  pub xs : List Record
  pub ys : List Record
  pub cut : rs ≡ xs ++ ys
  pub place : length xs ≡ below n rs
  pub none_found : lookup n rs ≡ none
  pub lodges : (r : Record) → r.number ≡ n → lodged r rs ≡ xs ++ r ∷ ys

pub data View (n : ℕ) (rs : List Record) : Type 0 where
  here : Standing n rs → View n rs
  away : Missing n rs → View n rs

-- a record of a number below n in front
module _ (n : ℕ) (s : Record) (rs : List Record) (h : s.number < n) where
  other : eqb s.number n ≡ false
  other = ne_eqb s.number n (λ e. omega arith)

  one_below : (k : ℕ) → k ≡ below n rs → suc k ≡ below n (s ∷ rs)
  unfolding below
  one_below k e = rw (lt-ltb s.number n h) (ap suc e)

  passed_by : (l : List Record) (r : Record) → r.number ≡ n → lodged r rs ≡ l → lodged r (s ∷ rs) ≡ s ∷ l
  unfolding lodged
  passed_by l r q e = rw (lt-ltb s.number r.number (omega arith)) (ap (λ (t : List Record). s ∷ t) e)

  pub passed : View n rs → View n (s ∷ rs)
  unfolding lookup withdrawn
  passed (here S) = here (record {
    xs = s ∷ S.xs;
    zs = S.zs;
    s = S.s;
    cut = ap (λ (t : List Record). s ∷ t) S.cut;
    place = one_below (length S.xs) S.place;
    found = rw other S.found;
    lodges = λ r q. passed_by (S.xs ++ r ∷ S.zs) r q (S.lodges r q);
    leaves = rw other (ap (λ (t : List Record). s ∷ t) S.leaves);
  })
  passed (away M) = away (record {
    xs = s ∷ M.xs;
    ys = M.ys;
    cut = ap (λ (t : List Record). s ∷ t) M.cut;
    place = one_below (length M.xs) M.place;
    none_found = rw other M.none_found;
    lodges = λ r q. passed_by (M.xs ++ r ∷ M.ys) r q (M.lodges r q);
  })

-- a record of the number n, or above it, in front
module _ (n : ℕ) (s : Record) (rs : List Record) (q : Rising (s.number + 1) rs) where
  none_below : n ≤ s.number → 0 ≡ below n (s ∷ rs)
  unfolding below
  none_below h = rw (le-ltb s.number n h) (sym (below_low n q (omega arith)))

  at_it : s.number ≡ n → View n (s ∷ rs)
  unfolding lookup lodged withdrawn
  at_it h = here (record {
    xs = [];
    zs = rs;
    s = s;
    cut = refl;
    place = none_below (omega arith);
    found = rw (eq-eqb s.number n h);
    lodges = λ r e. rw (le-ltb s.number r.number (omega arith), eq-eqb s.number r.number (h ∙ sym e));
    leaves = rw (eq-eqb s.number n h);
  })

  past_it : n < s.number → View n (s ∷ rs)
  unfolding lookup lodged
  past_it h = away (record {
    xs = [];
    ys = s ∷ rs;
    cut = refl;
    place = none_below (omega arith);
    none_found = rw (ne_eqb s.number n (λ e. omega arith)) (lookup_low n q (omega arith));
    lodges = λ r e. rw (le-ltb s.number r.number (omega arith), ne_eqb s.number r.number (λ f. omega arith));
  })

by_first : (x y : Bool) (n : ℕ) (s : Record) (rs : List Record) → ltb s.number n ≡ x → eqb s.number n ≡ y → Rising (s.number + 1) rs → View n rs → View n (s ∷ rs)
by_first true y n s rs e f q v = passed n s rs (ltb-true s.number n e) v
by_first false true n s rs e f q v = at_it n s rs q (eqb-true s.number n f)
by_first false false n s rs e f q v =
    past_it n s rs q (let g = eqb-false s.number n f in omega (arith, ltb-false s.number n e, g))

pub view : {low : ℕ} {rs : List Record} (n : ℕ) → Rising low rs → View n rs
unfolding lookup lodged below
view n end = away (record { xs = []; ys = []; cut = refl; place = refl; none_found = refl; lodges = λ r e. refl })
view n (next {r = r} {rs = rs} g l q) = by_first (ltb r.number n) (eqb r.number n) n r rs refl refl q (view n q)

-- ── the list stays one by rising number ──

module _ (r : Record) (good : legal r ≡ true) where
  lodged_in : (x y : Bool) {low : ℕ} (s : Record) (rs : List Record) → ltb s.number r.number ≡ x → eqb s.number r.number ≡ y
      → low ≤ r.number → low ≤ s.number → legal s ≡ true → Rising (s.number + 1) rs → (s.number + 1 ≤ r.number → Rising (s.number + 1) (lodged r rs))
      → Rising low (lodged r (s ∷ rs))
  unfolding lodged
  lodged_in true y s rs e f h g l q more = rw e (next g l (more (omega (arith, ltb-true s.number r.number e))))
  lodged_in false true s rs e f h g l q more =
      rw (e, f) (next h good (weaker (r.number + 1) (omega (arith, eqb-true s.number r.number f)) q))
  lodged_in false false s rs e f h g l q more =
      let d = eqb-false s.number r.number f in
      let k : r.number + 1 ≤ s.number = omega (arith, ltb-false s.number r.number e, d) in
      rw (e, f) (next h good (next k l q))

  pub lodged_rising : {low : ℕ} {rs : List Record} → low ≤ r.number → Rising low rs → Rising low (lodged r rs)
  unfolding lodged
  lodged_rising h end = next h good end
  lodged_rising h (next {r = s} {rs = rs} g l q) =
      lodged_in (ltb s.number r.number) (eqb s.number r.number) s rs refl refl h g l q (λ k. lodged_rising k q)

withdrawn_in : (x : Bool) {low : ℕ} (n : ℕ) (s : Record) (rs : List Record) → eqb s.number n ≡ x → low ≤ s.number → legal s ≡ true
    → Rising (s.number + 1) rs → Rising (s.number + 1) (withdrawn n rs) → Rising low (withdrawn n (s ∷ rs))
unfolding withdrawn
withdrawn_in true {low = low} n s rs e g l q more = rw e (weaker low (omega arith) q)
withdrawn_in false n s rs e g l q more = rw e (next g l more)

pub withdrawn_rising : {low : ℕ} {rs : List Record} (n : ℕ) → Rising low rs → Rising low (withdrawn n rs)
unfolding withdrawn
withdrawn_rising n end = end
withdrawn_rising n (next {r = s} {rs = rs} g l q) = withdrawn_in (eqb s.number n) n s rs refl g l q (withdrawn_rising n q)

-- ── what stands under each number afterwards ──

lookup_in : (x y u v : Bool) (r s : Record) (rs : List Record) (k : ℕ) → ltb s.number r.number ≡ x → eqb s.number r.number ≡ y
    → eqb r.number k ≡ u → eqb s.number k ≡ v → lookup k (lodged r rs) ≡ cond (eqb r.number k) (some r) (lookup k rs)
    → lookup k (lodged r (s ∷ rs)) ≡ cond (eqb r.number k) (some r) (lookup k (s ∷ rs))
unfolding lookup lodged
lookup_in true y true true r s rs k a b c d more =
    absurd (omega (arith, ltb-true s.number r.number a, eqb-true r.number k c, eqb-true s.number k d))
lookup_in true y true false r s rs k a b c d more = rw (a, d, c) (rw c at more)
lookup_in true y false true r s rs k a b c d more = rw (a, c, d)
lookup_in true y false false r s rs k a b c d more = rw (a, c, d) (rw c at more)
lookup_in false true true v r s rs k a b c d more = rw (a, b, c)
lookup_in false true false true r s rs k a b c d more =
    let n = eqb-false r.number k c in
    absurd (n (omega (arith, eqb-true s.number r.number b, eqb-true s.number k d)))
lookup_in false true false false r s rs k a b c d more = rw (a, b, c, d)
lookup_in false false u v r s rs k a b c d more = rw (a, b)

pub lookup_lodged : (r : Record) (rs : List Record) (k : ℕ) → lookup k (lodged r rs) ≡ cond (eqb r.number k) (some r) (lookup k rs)
unfolding lookup lodged
lookup_lodged r [] k = refl
lookup_lodged r (s ∷ rs) k =
    lookup_in (ltb s.number r.number) (eqb s.number r.number) (eqb r.number k) (eqb s.number k) r s rs k refl refl refl refl
    (lookup_lodged r rs k)

lookup_out : (x u v : Bool) (n : ℕ) (s : Record) (rs : List Record) (k : ℕ) → eqb s.number n ≡ x → eqb n k ≡ u → eqb s.number k ≡ v
    → Rising (s.number + 1) rs → lookup k (withdrawn n rs) ≡ cond (eqb n k) none (lookup k rs)
    → lookup k (withdrawn n (s ∷ rs)) ≡ cond (eqb n k) none (lookup k (s ∷ rs))
unfolding lookup withdrawn
lookup_out true true v n s rs k a c d q more =
    rw (a, c) (lookup_low k q (omega (arith, eqb-true s.number n a, eqb-true n k c)))
lookup_out true false true n s rs k a c d q more =
    let h = eqb-false n k c in absurd (h (omega (arith, eqb-true s.number n a, eqb-true s.number k d)))
lookup_out true false false n s rs k a c d q more = rw (a, c, d)
lookup_out false true true n s rs k a c d q more =
    let h = eqb-false s.number n a in absurd (h (omega (arith, eqb-true n k c, eqb-true s.number k d)))
lookup_out false true false n s rs k a c d q more = rw (a, d, c) (rw c at more)
lookup_out false false true n s rs k a c d q more = rw (a, c, d)
lookup_out false false false n s rs k a c d q more = rw (a, c, d) (rw c at more)

pub lookup_withdrawn : {low : ℕ} {rs : List Record} (n k : ℕ) → Rising low rs → lookup k (withdrawn n rs) ≡ cond (eqb n k) none (lookup k rs)
unfolding lookup withdrawn
lookup_withdrawn n k end = nothing (eqb n k)
  where
    nothing : (x : Bool) → ◌≡◌ {A = Option Record} none (cond x none none)
    nothing true = refl
    nothing false = refl
lookup_withdrawn n k (next {r = s} {rs = rs} g l q) =
    lookup_out (eqb s.number n) (eqb n k) (eqb s.number k) n s rs k refl refl refl q (lookup_withdrawn n k q)

pub withdrawn_short : (n : ℕ) (rs : List Record) → length (withdrawn n rs) ≤ length rs
unfolding withdrawn
withdrawn_short n [] = omega arith
withdrawn_short n (s ∷ rs) = by (eqb s.number n) (withdrawn_short n rs)
  where
    by : (x : Bool) → length (withdrawn n rs) ≤ length rs → length (cond x rs (s ∷ withdrawn n rs)) ≤ suc (length rs)
    by true h = omega arith
    by false h = omega arith

pub below_short : (n : ℕ) (rs : List Record) → below n rs ≤ length rs
unfolding below
below_short n [] = omega arith
below_short n (s ∷ rs) = by (ltb s.number n) (below n rs) (below_short n rs)
  where
    by : (x : Bool) (m : ℕ) → m ≤ length rs → cond x (suc m) m ≤ suc (length rs)
    by true m h = omega arith
    by false m h = omega arith
