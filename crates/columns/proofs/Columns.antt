-- Laws of `agreed`, one column at a time: a turn of the loop that goes on, one that stops, and the end.
use mathlib.Core.Path.{◌≡◌, refl}
use mathlib.Core.List.{List, [], ◌∷◌}
use mathlib.Core.Bool.{Bool, true, false, ◌&&◌}
use Prim.Native.Nat.{ℕ, ◌<◌, ◌≤◌, ◌+◌, ◌-◌}
use native.Mathlib.Numerals.{add-one}
use native.Mathlib.Omega.{arith}
use lib.ListN.{length, drop, get_or, drop_of_length-le}
use lib.Dec.{eqb}
use lib.Seq.{drop-cons}
use Rattle.columns.specs.Layout.{fits, agreed}

none : (cs : List ℕ) (p : Bool) → agreed cs p [] ≡ 0
unfolding agreed
none [] p = refl
none (c ∷ cs) p = refl

module _ (cs bs : List ℕ) (p : Bool) (i n : ℕ) (inv : i + agreed (drop i cs) p (drop i bs) ≡ n) where
  pub more : i < length cs → i < length bs → fits (get_or cs i 0) p (get_or bs i 0) ≡ true
      → i + 1 + agreed (drop (i + 1) cs) (eqb (get_or bs i 0) 32) (drop (i + 1) bs) ≡ n
  unfolding agreed
  more hc hb e = rw add-one (let h = rw (drop-cons cs i 0 hc, drop-cons bs i 0 hb, e) at inv in omega arith)

  pub stop : i < length cs → i < length bs → fits (get_or cs i 0) p (get_or bs i 0) ≡ false → i ≡ n
  unfolding agreed
  stop hc hb e = let h = rw (drop-cons cs i 0 hc, drop-cons bs i 0 hb, e) at inv in omega arith

  pub done : length cs ≤ i → i ≡ n
  unfolding agreed
  done hc = let h = rw (drop_of_length-le cs hc) at inv in omega arith

  pub line_done : length bs ≤ i → i ≡ n
  line_done hb = let h = rw (drop_of_length-le bs hb) at inv in omega (arith, none (drop i cs) p)

-- if every test so far held, what agrees further on is what agrees in all
abbrev pub Kept : List ℕ → List ℕ → Bool → ℕ → Type 0
Kept cs bs keeps i = keeps ≡ true → i + agreed (drop i cs) (eqb (get_or bs (i - 1) 0) 32) (drop i bs) ≡ agreed cs true bs

pub both : (a b : Bool) → (a && b) ≡ true → (a ≡ true) × (b ≡ true)
both true b e = (refl, e)
both false b e = (e, let z : ◌≡◌ {A = ℕ} 0 1 = cc in absurd (omega arith))

module _ (cs bs : List ℕ) (same : length cs ≡ length bs) where
  pub kept_first : (fit : Bool) → (fit ≡ true → fits (get_or cs 0 0) true (get_or bs 0 0) ≡ true) → 0 < length bs → Kept cs bs fit 1
  kept_first fit f h e =
      let whole : 0 + agreed cs true bs ≡ agreed cs true bs = omega arith in
      more cs bs true 0 (agreed cs true bs) whole (omega arith) h (f e)

  pub kept_more : (keeps fit : Bool) (i : ℕ) → (fit ≡ true → fits (get_or cs i 0) (eqb (get_or bs (i - 1) 0) 32) (get_or bs i 0) ≡ true) → i < length bs
      → Kept cs bs keeps i → Kept cs bs (keeps && fit) (i + 1)
  kept_more keeps fit i f h k e =
      let b = both keeps fit e in
      let back : i + 1 - 1 ≡ i = omega arith in
      rw back (more cs bs (eqb (get_or bs (i - 1) 0) 32) i (agreed cs true bs) (k b.0) (omega arith) h (f b.1))

  pub kept_all : (keeps : Bool) (i : ℕ) → length bs ≤ i → i ≤ length bs → Kept cs bs keeps i → keeps ≡ true → agreed cs true bs ≡ length bs
  kept_all keeps i low high k e =
      let n : i ≡ agreed cs true bs = done cs bs (eqb (get_or bs (i - 1) 0) 32) i (agreed cs true bs) (k e) (omega arith) in
      omega arith
