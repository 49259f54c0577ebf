-- Where a move leads, by the span's sign and its distance. Assumes nothing.
use mathlib.Core.Path.{◌≡◌, refl, sym, ap, ◌∙◌, subst}
use mathlib.Core.Bool.{Bool, true, false, cond}
use Prim.Native.Nat.{ℕ, suc, ◌+◌, ◌-◌, ◌≤◌, ◌<◌}
use lib.IntN.{ℤ, pos, negsuc, nat_abs, ◌+ℤ◌}
use native.Mathlib.Omega.{arith}
use lib.Dec.{leb}
use borrow.Author.Tests.{le-leb, lt-leb, le-ltb, leb-true}
use Rattle.instant.specs.Calendar.{in_calendar}
use Rattle.instant.specs.Move.{in_span, span_limit, landed, reached, move_of}
use Rattle.instant.specs.declared.Instant.{Instant}
use Rattle.std.specs.Prelude.{Err, Ok, Result}
use Rattle.instant.specs.declared.MoveRefusal.TheVariants as move_refusal
use Rattle.instant.specs.declared.MoveRefusal.{MoveRefusal}
use Rattle.instant.proofs.Signed.{back}

pub too_far : (t : ℕ) (z : ℤ) → 315532800000000 < nat_abs z → (Err move_refusal.TooFar) ≡ move_of t z
unfolding move_of in_span span_limit
too_far t z h = simp (lt-leb (nat_abs z) 315532800000000 h)

pub from_outside : (t : ℕ) (z : ℤ) → nat_abs z ≤ 315532800000000 → in_calendar t ≡ false → (Err move_refusal.Outside) ≡ move_of t z
unfolding move_of in_span span_limit
from_outside t z h g = simp (le-leb (nat_abs z) 315532800000000 h, g)

from_inside : (t : ℕ) (z : ℤ) → nat_abs z ≤ 315532800000000 → in_calendar t ≡ true → move_of t z ≡ reached t z
unfolding move_of in_span span_limit
from_inside t z h g = simp (le-leb (nat_abs z) 315532800000000 h, g)

pub forward : (t : ℕ) (z : ℤ) → nat_abs z ≤ 315532800000000 → in_calendar t ≡ true → back z ≡ false → landed (t + nat_abs z) ≡ move_of t z
unfolding reached
forward t (pos n) h g b = sym (from_inside t (pos n) h g)
forward t (negsuc n) h g b = cc

pub backward : (t : ℕ) (z : ℤ) → nat_abs z ≤ 315532800000000 → in_calendar t ≡ true → back z ≡ true → nat_abs z ≤ t → landed (t - nat_abs z) ≡ move_of t z
unfolding reached
backward t (pos n) h g b l = cc
backward t (negsuc n) h g b l = sym (from_inside t (negsuc n) h g ∙ simp (le-leb (suc n) t l))

pub before_first : (t : ℕ) (z : ℤ) → nat_abs z ≤ 315532800000000 → in_calendar t ≡ true → back z ≡ true → t < nat_abs z → (Err move_refusal.Outside) ≡ move_of t z
unfolding reached
before_first t (pos n) h g b l = cc
before_first t (negsuc n) h g b l = sym (from_inside t (negsuc n) h g ∙ simp (lt-leb (suc n) t l))

-- ---- a move that is made leads from an instant of the calendar to one, as far as its span says

-- what the tests of a move that is made have shown
landed_at : (b : Bool) (v u : ℕ) → cond {A = Result Instant MoveRefusal} b (Ok (record { 0 = v })) (Err move_refusal.Outside) ≡ Ok (record { 0 = u }) → (b ≡ true) × (v ≡ u)
landed_at true v u h =
    let e : ◌≡◌ {A = Instant} (record { 0 = v }) (record { 0 = u }) = cc in
    (refl, ap (λ (i : Instant). i.0) e)
landed_at false v u h = let z : ◌≡◌ {A = ℕ} 0 1 = cc in absurd (omega arith)

tests : (a b : Bool) (r : Result Instant MoveRefusal) (u : ℕ) → cond a (cond b r (Err move_refusal.Outside)) (Err move_refusal.TooFar) ≡ Ok (record { 0 = u }) → (b ≡ true) × (r ≡ Ok (record { 0 = u }))
tests true true r u h = (refl, h)
tests true false r u h = let z : ◌≡◌ {A = ℕ} 0 1 = cc in absurd (omega arith)
tests false b r u h = let z : ◌≡◌ {A = ℕ} 0 1 = cc in absurd (omega arith)

reached_at : (t : ℕ) (z : ℤ) (u : ℕ) → reached t z ≡ Ok (record { 0 = u }) → (in_calendar u ≡ true) × (pos t +ℤ z ≡ pos u)
unfolding reached landed
reached_at t (pos n) u h =
    let p = landed_at (in_calendar (t + n)) (t + n) u h in
    (subst (λ (x : ℕ). in_calendar x ≡ true) p.1 p.0, ap pos p.1)
reached_at t (negsuc n) u h = go (leb (suc n) t) (leb-true (suc n) t) h
  where
    go : (b : Bool) → (b ≡ true → suc n ≤ t) → cond b (landed (t - suc n)) (Err move_refusal.Outside) ≡ Ok (record { 0 = u }) → (in_calendar u ≡ true) × (pos t +ℤ negsuc n ≡ pos u)
    go true l h =
        let p = landed_at (in_calendar (t - suc n)) (t - suc n) u h in
        (subst (λ (x : ℕ). in_calendar x ≡ true) p.1 p.0, ap (λ (b : Bool). cond b (negsuc (suc n - suc t)) (pos (t - suc n))) (le-ltb t (suc n) (l refl)) ∙ ap pos p.1)
    go false l h = let z : ◌≡◌ {A = ℕ} 0 1 = cc in absurd (omega arith)

pub move_made : (t : ℕ) (z : ℤ) (u : ℕ) → move_of t z ≡ Ok (record { 0 = u }) → (in_calendar t ≡ true) × (in_calendar u ≡ true) × (pos t +ℤ z ≡ pos u)
unfolding move_of
move_made t z u h =
    let p = tests (in_span z) (in_calendar t) (reached t z) u h in
    let q = reached_at t z u p.1 in
    (p.0, q.0, q.1)
