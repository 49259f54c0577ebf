-- The refusals of a call, in their order.
use mathlib.Core.Path.{◌≡◌, refl, sym}
use mathlib.Core.Bool.{Bool, true, false, cond, ◌||◌, false≢true}
use mathlib.Core.List.{List}
use Prim.Native.Nat.{ℕ, zero, suc, ◌+◌, ◌/◌, ◌≤◌, ◌<◌}
use native.Mathlib.Omega.{arith}
use lib.Dec.{eqb, ltb}
use lib.Ieee.{Float}
use borrow.Author.Tests.{lt-ltb, le-ltb, ltb-false, eqb-false, eq-eqb, ne_eqb}
use Rattle.windows.specs.Windows.{bad_station, few_places, refusal_of}

module _ (p : List Float) (step n : ℕ) (b : Bool) where
  pub refused_25 : bad_station p ≡ true → 25 ≡ refusal_of p step n b
  unfolding refusal_of
  refused_25 h = rw h

  pub refused_26 : bad_station p ≡ false → step ≡ 0 → 26 ≡ refusal_of p step n b
  unfolding refusal_of
  refused_26 h z = rw (h, eq-eqb step 0 z)

  pub refused_26_long : bad_station p ≡ false → 86400 < step → 26 ≡ refusal_of p step n b
  unfolding refusal_of
  refused_26_long h l = rw (h, ne_eqb step 0 (λ z. omega arith), lt-ltb 86400 step l)

  step_good : 0 < step → step ≤ 86400 → (eqb step 0 || ltb 86400 step) ≡ false
  step_good z l = rw (ne_eqb step 0 (λ e. omega arith), le-ltb 86400 step l)

  pub refused_18 : bad_station p ≡ false → 0 < step → step ≤ 86400 → 1024 < n → 18 ≡ refusal_of p step n b
  unfolding refusal_of
  refused_18 h z l m = rw (h, step_good z l, lt-ltb 1024 n m)

  pub refused_17 : bad_station p ≡ false → 0 < step → step ≤ 86400 → n ≤ 1024 → b ≡ true → 17 ≡ refusal_of p step n b
  unfolding refusal_of
  refused_17 h z l m f = rw (h, step_good z l, le-ltb 1024 n m, f)

  pub refused_not : bad_station p ≡ false → 0 < step → step ≤ 86400 → n ≤ 1024 → b ≡ false → 0 ≡ refusal_of p step n b
  unfolding refusal_of
  refused_not h z l m f = rw (h, step_good z l, le-ltb 1024 n m, f)

-- ── what a call that is not refused meets ──

impossible : {A : Type 0} → ⊥ → A
impossible = elim [ ]

second : (t : Bool) (x y : ℕ) → (x ≡ 0 → ⊥) → cond t x y ≡ 0 → (t ≡ false) × (y ≡ 0)
second true x y n h = (impossible (n h), impossible (n h))
second false x y n h = (refl, h)

or_second : (a b : Bool) → (a || b) ≡ false → b ≡ false
or_second true b h = impossible (false≢true (sym h))
or_second false b h = h

pub meets : (p : List Float) (step n : ℕ) (b : Bool) → refusal_of p step n b ≡ 0 → (step ≤ 86400) × ((n ≤ 1024) × (b ≡ false))
unfolding refusal_of
meets p step n b h =
    let a = second (bad_station p) 25 _ (λ z. omega arith) h in
    let e = second (eqb step 0 || ltb 86400 step) 26 _ (λ z. omega arith) a.1 in
    let c = second (ltb 1024 n) 18 _ (λ z. omega arith) e.1 in
    let d = second b 17 0 (λ z. omega arith) c.1 in
    (ltb-false 86400 step (or_second (eqb step 0) (ltb 86400 step) e.0), (ltb-false 1024 n c.0, d.0))

or_first : (a b : Bool) → (a || b) ≡ false → a ≡ false
or_first true b h = h
or_first false b h = refl

positive : (n : ℕ) → (n ≡ 0 → ⊥) → 0 < n
positive zero h = impossible (h refl)
positive (suc n) h = omega arith

pub meets_step : (p : List Float) (step n : ℕ) (b : Bool) → refusal_of p step n b ≡ 0 → 0 < step
unfolding refusal_of
meets_step p step n b h =
    let a = second (bad_station p) 25 _ (λ z. omega arith) h in
    let e = second (eqb step 0 || ltb 86400 step) 26 _ (λ z. omega arith) a.1 in
    let z = eqb-false step 0 (or_first (eqb step 0) (ltb 86400 step) e.0) in
    positive step z

-- ── places ──

pub places_enough : (n p : ℕ) → few_places n p ≡ false → (n + 1) / 2 ≤ p
unfolding few_places
places_enough n p h = ltb-false p ((n + 1) / 2) h
