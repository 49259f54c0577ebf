-- A list refused, and a list answered.
use mathlib.Core.Path.{◌≡◌, refl, sym, ap, ◌∙◌}
use mathlib.Core.Bool.{Bool, true, false, cond}
use mathlib.Core.List.{List, []}
use Prim.Native.Nat.{ℕ, ◌*◌, ◌≤◌}
use native.Mathlib.Omega.{arith}
use lib.ListN.{length}
use lib.Dec.{ltb}
use lib.IntN.{ℤ}
use lib.Ieee.{Float}
use borrow.Author.Tests.{ltb-false, ne_eqb, eq-eqb}
use Rattle.opening.specs.declared.opening.Satellite.{Satellite}
use Rattle.instant.specs.declared.Strides.{Strides}
use Rattle.requests.specs.Lists.{rows_from, strides_from, satellite_from, refusals_of, states_of, rounds_of, over, list_refusal, list_times, ListPost}

absurd : {A : Type 0} → ⊥ → A
absurd = elim [ ]

-- a choice that is 0, whose first answer is not, took the second
second : (t : Bool) (x y : ℕ) → (x ≡ 0 → ⊥) → cond t x y ≡ 0 → (t ≡ false) × (y ≡ 0)
second true x y n h = (absurd (n h), absurd (n h))
second false x y n h = (refl, h)

-- a list that is not refused has room
pub rooms : (n a b c : ℕ) → list_refusal n a b c ≡ 0 → (n ≤ 1024) × ((n ≤ a) × ((6 * n ≤ b) × (n ≤ c)))
unfolding list_refusal
rooms n a b c h =
    let p = second (ltb 1024 n) 18 _ (λ z. omega arith) h in
    let q = second (ltb a n) 17 _ (λ z. omega arith) p.1 in
    let r = second (ltb b (6 * n)) 17 _ (λ z. omega arith) q.1 in
    let s = second (ltb c n) 17 0 (λ z. omega arith) r.1 in
    (ltb-false 1024 n p.0, (ltb-false a n q.0, (ltb-false b (6 * n) r.0, ltb-false c n s.0)))

pub refused : (s : Satellite) (ts : List ℤ) (a : List ℕ) (b : List Float) (c : List ℕ) (k : ℕ) → k ≡ list_refusal (length ts) (length a) (length b) (length c) → (k ≡ 0 → ⊥)
    → ListPost s ts a b c (record { refusal = k; strides = record { 0 = 0 }; satellite = s }) a b c
refused s ts a b c k e n =
    let none : list_times ts (length a) (length b) (length c) ≡ [] = rw (ne_eqb (list_refusal (length ts) (length a) (length b) (length c)) 0 (λ z. n (e ∙ z))) in
    record {
      answer = rw (none, e);
      refusals = rw none;
      states = rw none;
      rounds = rw none;
    }

pub accepted : (s : Satellite) (ts : List ℤ) (a : List ℕ) (b : List Float) (c : List ℕ) (k : ℕ) (n : Strides) (s' : Satellite) (a' : List ℕ) (b' : List Float) (c' : List ℕ)
    → k ≡ list_refusal (length ts) (length a) (length b) (length c) → k ≡ 0
    → n.0 ≡ strides_from s ts → s' ≡ satellite_from s ts → a' ≡ over (refusals_of (rows_from s ts)) a → b' ≡ over (states_of (rows_from s ts)) b → c' ≡ over (rounds_of (rows_from s ts)) c
    → ListPost s ts a b c (record { refusal = k; strides = n; satellite = s' }) a' b' c'
accepted s ts a b c k n s' a' b' c' e z hn hs ha hb hc =
    let all : list_times ts (length a) (length b) (length c) ≡ ts = rw (eq-eqb (list_refusal (length ts) (length a) (length b) (length c)) 0 (sym e ∙ z)) in
    record {
      answer = rw (all, e, hs) (ap (λ x. record { refusal = list_refusal (length ts) (length a) (length b) (length c); strides = record { 0 = x }; satellite = satellite_from s ts }) hn);
      refusals = rw all ha;
      states = rw all hb;
      rounds = rw all hc;
    }
