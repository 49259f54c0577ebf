-- A request that takes no stride leaves the position and the derivatives there as they are.
use mathlib.Core.Path.{◌≡◌, refl, sym, ap, ◌∙◌}
use mathlib.Core.Bool.{Bool, true, false, ◌&&◌, ◌||◌, not, false≢true}
use Prim.Native.Nat.{ℕ, zero, suc, ◌-◌}
use native.Mathlib.Omega.{arith}
use lib.Dec.{eqb, ltb}
use lib.Ieee.{Float}
use borrow.Author.Tests.{eqb-true, ne_eqb}
use Rattle.satellite.specs.declared.Integrator.{Integrator}
use Rattle.resonance.specs.declared.place.Side.{Side}
use Rattle.resonance.specs.declared.place.Side.TheVariants.{Forward, Back}
use Rattle.resonance.specs.declared.place.Place.{Place}
use Rattle.resonance.specs.declared.held.Held.{Held}
use Rattle.resonance.specs.Place.{same_side, number, facing, pick, resumes, begun, kept, iter, advanced, rise, advance_of}
use Rattle.resonance.specs.Held.{held_at, unknown, Right, stays}
use Rattle.resonance.proofs.Laws.{and_left}

and_right : (a b : Bool) → a && b ≡ true → b ≡ true
and_right true b h = h
and_right false b h = absurd (false≢true h)

-- at stride 0 the side says nothing, and elsewhere it is the same
faced : (s d : Side) (n : ℕ) (x y : Float) → (eqb n 0 || same_side s d) ≡ true
    → kept (record { side = d; strides = record { 0 = n }; xli = x; xni = y }) ≡ kept (record { side = s; strides = record { 0 = n }; xli = x; xni = y })
unfolding kept
faced s d zero x y h = refl
faced Forward Forward (suc n) x y h = refl
faced Forward Back (suc n) x y h = absurd (false≢true (rw (ne_eqb (suc n) 0 (λ z. omega arith)) at h))
faced Back Forward (suc n) x y h = absurd (false≢true (rw (ne_eqb (suc n) 0 (λ z. omega arith)) at h))
faced Back Back (suc n) x y h = refl

again_by : (b : Bool) (p : Place) → eqb (number p) 0 ≡ b → kept (pick b (facing Forward p) p) ≡ pick b (facing Forward p) p
unfolding kept
again_by true p h = rw h
again_by false p h = rw h

again : (p : Place) → kept (kept p) ≡ kept p
unfolding kept
again p = again_by (eqb (number p) 0) p refl

-- a request leaves a position that is kept as it is
pub left_kept : (i : Integrator) (p : Place) (d : Side) (m : ℕ) → kept (advanced i p d m) ≡ advanced i p d m
unfolding advanced
left_kept i p d m = again _

-- from where it stands
standing : (i : Integrator) (p : Place) (d : Side) (m : ℕ) → number p ≡ m → resumes p d m ≡ true → advance_of i p d m ≡ record { place = kept (facing d p); strides = record { 0 = 0 } }
unfolding advance_of advanced rise begun iter
standing i p d m e h =
    let z : m - number p ≡ 0 = omega arith in
    rw (h, z)

-- a request that takes no stride
pub staying : (i : Integrator) (h : Held) (d : Side) (m : ℕ) → Right i h → stays h d m ≡ true
    → (h ≡ held_at i h.place) × (advance_of i h.place d m ≡ record { place = h.place; strides = record { 0 = 0 } })
unfolding stays resumes
staying i h d m r e =
    let p = h.place in
    let k = and_left h.known _ e in
    let s = and_right h.known _ e in
    let g = and_right (eqb (number p) m) _ s in
    let same : kept (facing d p) ≡ p =
    faced p.side d (number p) p.xli p.xni (and_right (not (ltb m (number p))) _ g) ∙ (r k).1 in (
      (r k).0,
      standing i p d m (eqb-true (number p) m (and_left (eqb (number p) m) _ s)) g
          ∙ ap (λ (x : Place). record { place = x; strides = record { 0 = 0 } }) same,
    )

pub unknown_right : (i : Integrator) (p : Place) (h : Held) → h ≡ unknown p → Right i h
unfolding unknown
unknown_right i p h e k = absurd (false≢true (sym (ap (λ (x : Held). x.known) e) ∙ k))

pub unknown_place : (p : Place) (h : Held) → h ≡ unknown p → h.place ≡ p
unfolding unknown
unknown_place p h e = ap (λ (x : Held). x.place) e
