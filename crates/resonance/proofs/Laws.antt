-- Laws of the saved position that the loop of strides rests on.
use mathlib.Core.Path.{◌≡◌, refl, sym, ap, ◌∙◌}
use Prim.Native.Nat.{ℕ, suc, ◌+◌, ◌-◌, ◌≤◌, ◌<◌}
use native.Mathlib.Omega.{arith}
use mathlib.Core.Bool.{Bool, true, false, ◌&&◌, not}
use lib.Dec.{ltb}
use borrow.Author.Tests.{ltb-false, not-true}
use Rattle.satellite.specs.declared.Integrator.{Integrator}
use Rattle.resonance.specs.declared.place.Side.{Side}
use Rattle.resonance.specs.declared.place.Place.{Place}
use Rattle.resonance.specs.Place.{number, resumes, begun, pick, facing, stride, iter, epoch_of, kept}

-- an `&&` that is true has its first half true
pub and_left : (a b : Bool) → a && b ≡ true → a ≡ true
and_left true b h = refl
and_left false b h = h

-- the start chosen is not past the goal
begun_pick : (b : Bool) (e p : Place) (d : Side) (m : ℕ) → (b ≡ true → number p ≤ m) → number e ≡ 0 → number (pick b (facing d p) (facing d e)) ≤ m
begun_pick true e p d m h z = h refl
begun_pick false e p d m h z = omega arith

pub begun_le : (i : Integrator) (p : Place) (d : Side) (m : ℕ) → number (begun (epoch_of i) p d m) ≤ m
unfolding begun resumes epoch_of
begun_le i p d m =
    begun_pick (resumes p d m) (epoch_of i) p d m
    (λ h. ltb-false m (number p) (not-true (ltb m (number p)) (and_left (not (ltb m (number p))) _ h))) refl

pub stride_number : (i : Integrator) (p : Place) → number (stride i p) ≡ number p + 1
unfolding stride
stride_number i p = refl

-- a stride taken is one fewer to take
iter_on : (i : Integrator) (p : Place) (m n : ℕ) → n < m → iter i (m - (n + 1)) (stride i p) ≡ iter i (m - n) p
unfolding iter
iter_on i p m n h = let e : m - n ≡ suc (m - (n + 1)) = omega arith in rw e

pub turn : (i : Integrator) (p q : Place) (m : ℕ) → q ≡ stride i p → number p < m → iter i (m - number q) q ≡ iter i (m - number p) p
turn i p q m e h = ap (λ x. iter i (m - number x) x) e ∙ ap (λ n. iter i (m - n) (stride i p)) (stride_number i p) ∙ iter_on i p m (number p) h

iter_zero : (i : Integrator) (p : Place) (m : ℕ) → m ≤ number p → iter i (m - number p) p ≡ p
unfolding iter
iter_zero i p m h = let z : m - number p ≡ 0 = omega arith in rw z

-- what the loop ends with, handed back, is what the contract says
pub carried_ends : (i : Integrator) (b q : Place) (m : ℕ) → m ≤ number q → iter i (m - number q) q ≡ iter i (m - number b) b
    → kept q ≡ kept (iter i (m - number b) b)
carried_ends i b q m hm hi = ap kept (sym (iter_zero i q m hm) ∙ hi)
