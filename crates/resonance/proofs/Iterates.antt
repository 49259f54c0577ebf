-- A saved position that is the iterate at its stride number is carried on to the iterate at the number asked.
use mathlib.Core.Path.{◌≡◌, refl, sym, ap, ◌∙◌}
use Prim.Native.Nat.{ℕ, zero, suc, ◌+◌, ◌-◌, ◌≤◌}
use native.Mathlib.Omega.{arith}
use mathlib.Core.Bool.{Bool, true, false, ◌&&◌, ◌||◌, not, cond}
use lib.Dec.{ltb, eqb, leb}
use borrow.Author.Tests.{le-ltb, lt-ltb, ne_eqb, leb-true, leb-false}
use Rattle.satellite.specs.declared.Integrator.{Integrator}
use Rattle.resonance.specs.declared.place.Side.{Side}
use Rattle.resonance.specs.declared.place.Side.TheVariants.{Forward, Back}
use Rattle.resonance.specs.declared.place.Place.{Place}
use Rattle.resonance.proofs.Laws.{and_left, begun_le}
use Rattle.resonance.specs.Place.{number, same_side, resumes, begun, pick, facing, stride, iter, epoch_of, kept, advanced, rise}

-- the position of n strides on the side d from the epoch
unfoldable pub position : Integrator → Side → ℕ → Place
position i d n = kept (iter i n (facing d (epoch_of i)))

iter_add : (i : Integrator) (a b : ℕ) (p : Place) → iter i b (iter i a p) ≡ iter i (a + b) p
unfolding iter
iter_add i zero b p = let e : 0 + b ≡ b = omega arith in rw e
iter_add i (suc a) b p = let e : suc a + b ≡ suc (a + b) = omega arith in rw e (iter_add i a b (stride i p))

number_iter : (i : Integrator) (n : ℕ) (p : Place) → number (iter i n p) ≡ number p + n
unfolding iter stride
number_iter i zero p = omega arith
number_iter i (suc n) p = omega (arith, number_iter i n (stride i p))

side_iter : (i : Integrator) (n : ℕ) (p : Place) → (iter i n p).side ≡ p.side
unfolding iter stride
side_iter i zero p = refl
side_iter i (suc n) p = side_iter i n (stride i p)

-- from stride 1 on nothing is changed where it is handed back
kept_suc : (p : Place) (n : ℕ) → number p ≡ suc n → kept p ≡ p
unfolding kept
kept_suc p n h = rw (ne_eqb (number p) 0 (λ z. omega arith))

position_suc : (i : Integrator) (d : Side) (n : ℕ) → position i d (suc n) ≡ iter i (suc n) (facing d (epoch_of i))
unfolding position epoch_of
position_suc i d n = kept_suc _ n (omega (arith, number_iter i (suc n) (facing d (epoch_of i))))

pub position_zero : (i : Integrator) (d : Side) → position i d 0 ≡ epoch_of i
unfolding position iter kept epoch_of
position_zero i d = refl

pub number_position : (i : Integrator) (d : Side) (n : ℕ) → number (position i d n) ≡ n
unfolding epoch_of
number_position i d zero = ap number (position_zero i d)
number_position i d (suc n) = ap number (position_suc i d n) ∙ number_iter i (suc n) (facing d (epoch_of i)) ∙ omega arith

side_position : (i : Integrator) (d : Side) (n : ℕ) → (position i d (suc n)).side ≡ d
side_position i d n = ap (λ p. p.side) (position_suc i d n) ∙ side_iter i (suc n) (facing d (epoch_of i))

-- facing its own side
facing_own : (p : Place) (d : Side) → p.side ≡ d → facing d p ≡ p
facing_own p d h = ap (λ e. facing e p) (sym h)

same_eq : (d e : Side) → same_side d e ≡ true → d ≡ e
same_eq Forward Forward h = refl
same_eq Forward Back h = cc
same_eq Back Forward h = cc
same_eq Back Back h = refl

-- whether n strides on the side d serve a request for m on the side e
unfoldable pub serves : Side → ℕ → Side → ℕ → Bool
serves d n e m = leb n m && (eqb n 0 || same_side d e)

not_ltb : (m n : ℕ) → not (ltb m n) ≡ leb n m
not_ltb m n = pickb (leb n m) refl
  where
    pickb : (b : Bool) → leb n m ≡ b → not (ltb m n) ≡ leb n m
    pickb true h = rw (le-ltb m n (leb-true n m h), h)
    pickb false h = rw (lt-ltb m n (leb-false n m h), h)

pub resumes_position : (i : Integrator) (d e : Side) (n m : ℕ) → resumes (position i d n) e m ≡ serves d n e m
unfolding resumes serves
resumes_position i d e zero m = rw (number_position i d 0, not_ltb)
resumes_position i d e (suc n) m = rw (number_position i d (suc n), side_position i d n, not_ltb)

from_epoch : (i : Integrator) (e : Side) (m : ℕ) → kept (iter i (m - 0) (facing e (epoch_of i))) ≡ position i e m
unfolding position
from_epoch i e m = let z : m - 0 ≡ m = omega arith in rw z

and_right : (a b : Bool) → a && b ≡ true → b ≡ true
and_right true b h = h
and_right false b h = cc

serves_suc : (d e : Side) (n m : ℕ) → serves d (suc n) e m ≡ true → (suc n ≤ m) × (d ≡ e)
unfolding serves
serves_suc d e n m h =
    let g : leb (suc n) m && same_side d e ≡ true = rw (ne_eqb (suc n) 0 (λ z. omega arith)) at h in
    (leb-true (suc n) m (and_left (leb (suc n) m) (same_side d e) g), same_eq d e (and_right (leb (suc n) m) (same_side d e) g))

turned : (i : Integrator) (d e : Side) (m : ℕ) → d ≡ e → kept (iter i m (facing d (epoch_of i))) ≡ position i e m
unfolding position
turned i d e m h = ap (λ x. kept (iter i m (facing x (epoch_of i)))) h

-- goes on from there
go_on : (i : Integrator) (d e : Side) (n m : ℕ) → serves d n e m ≡ true
    → kept (iter i (m - number (facing e (position i d n))) (facing e (position i d n))) ≡ position i e m
unfolding epoch_of
go_on i d e zero m h = rw (position_zero i d) (from_epoch i e m)
go_on i d e (suc n) m h =
    let w : (suc n ≤ m) × (d ≡ e) = serves_suc d e n m h in
    let l : suc n ≤ m = w.0 in
    let own : facing e (position i d (suc n)) ≡ position i d (suc n) = facing_own _ e (side_position i d n ∙ w.1) in
    let z : suc n + (m - suc n) ≡ m = omega arith in
    ap (λ q. kept (iter i (m - number q) q)) own
    ∙ ap (λ x. kept (iter i (m - x) (position i d (suc n)))) (number_position i d (suc n))
    ∙ ap (λ q. kept (iter i (m - suc n) q)) (position_suc i d n)
    ∙ ap kept (iter_add i (suc n) (m - suc n) (facing d (epoch_of i)))
    ∙ ap (λ x. kept (iter i x (facing d (epoch_of i)))) z
    ∙ turned i d e m w.1

pub advanced_position : (i : Integrator) (d e : Side) (n m : ℕ) → advanced i (position i d n) e m ≡ position i e m
unfolding advanced begun epoch_of
advanced_position i d e n m = ap (λ b. kept (iter i (m - number (at b)) (at b))) (resumes_position i d e n m) ∙ by (serves d n e m) refl
  where
    at : Bool → Place
    at b = pick b (facing e (position i d n)) (facing e (epoch_of i))

    by : (b : Bool) → serves d n e m ≡ b → kept (iter i (m - number (at b)) (at b)) ≡ position i e m
    by true h = go_on i d e n m h
    by false h = from_epoch i e m

-- what it reports
pub strides_position : (i : Integrator) (d e : Side) (n m : ℕ) → rise i (position i d n) e m ≡ cond (serves d n e m) (m - n) m
unfolding rise begun epoch_of
strides_position i d e n m = ap (λ b. m - number (pick b (facing e (position i d n)) (facing e (epoch_of i)))) (resumes_position i d e n m) ∙ by (serves d n e m)
  where
    by : (b : Bool) → m - number (pick b (facing e (position i d n)) (facing e (epoch_of i))) ≡ cond b (m - n) m
    by true = ap (λ x. m - x) (number_position i d n)
    by false = omega arith

-- for any position handed in: the number saved is the number asked
number_pick : (b : Bool) (q : Place) → number (pick b (facing Forward q) q) ≡ number q
number_pick true q = refl
number_pick false q = refl

number_kept : (q : Place) → number (kept q) ≡ number q
unfolding kept
number_kept q = number_pick (eqb (number q) 0) q

pub advanced_number : (i : Integrator) (p : Place) (d : Side) (m : ℕ) → number (advanced i p d m) ≡ m
unfolding advanced
advanced_number i p d m =
    let b = begun (epoch_of i) p d m in
    number_kept (iter i (m - number b) b) ∙ number_iter i (m - number b) b ∙ omega (arith, begun_le i p d m)
