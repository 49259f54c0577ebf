-- Two times at once come to what each comes to by itself.
use mathlib.Core.Path.{◌≡◌, refl, ◌∙◌}
use mathlib.Core.Bool.{Bool, true, false, cond, ◌||◌}
use Prim.Native.Nat.{ℕ}
use Rattle.instant.specs.declared.Minutes.{Minutes}
use Rattle.satellite.specs.declared.NearEarth.{NearEarth}
use Rattle.state.specs.declared.parts.Secular.{Secular}
use Rattle.state.specs.declared.parts.Mean.{Mean}
use Rattle.state.specs.declared.parts.Short.{Short}
use Rattle.state.specs.declared.parts.Ready.{Ready}
use Rattle.state.specs.declared.parts.Solved.{Solved}
use Rattle.state.specs.declared.answer.Refusal.TheVariants.{MeanMotion, MeanElements, SemiLatusRectum, Decayed}
use Rattle.std.specs.Prelude.{Err, Result, None, Option, Some}
use Rattle.state.specs.declared.answer.State.{State}
use Rattle.state.specs.declared.answer.Refusal.{Refusal}
use Rattle.state.specs.Secular.{no_motion, outside}
use Rattle.state.specs.Periodics.{negative_latus, decayed}
use Rattle.state.specs.Sgp4.{placed, periodics}
use Rattle.state.specs.Ahead.{shortened_from}
use Rattle.state.specs.Kept.{averaged_from, sgp4_from}
use Rattle.state.proofs.Ahead.{shortened_ahead}
use Rattle.state.specs.Two.{placed_two, plane_solved, shortened_two, solved_of, periodics_two, pair_of, ready_of, averaged_two, ready_two}

-- ── what is claimed of a pair ──

-- both answers, where there are any, are those of each time by itself
abbrev pub Same : Option ((Result (State × ℕ) Refusal) × (Result (State × ℕ) Refusal)) → Result (State × ℕ) Refusal → Result (State × ℕ) Refusal → Type 0
Same (Some (a, b)) x y = (a ≡ x) × (b ≡ y)
Same None x y = Unit {0}

-- what is ready for both times, where it is, leads to the answer of each by itself
abbrev pub Readied : Option (Ready × Ready) → Result (State × ℕ) Refusal → Result (State × ℕ) Refusal → Type 0
Readied (Some (a, b)) x y = (periodics a.p a.am a.k ≡ x) × (periodics b.p b.am b.k ≡ y)
Readied None x y = Unit {0}

-- ── both go on where neither is refused ──

on : (a b : Bool) (r : Option ((Result (State × ℕ) Refusal) × (Result (State × ℕ) Refusal))) (u v x y : Result (State × ℕ) Refusal) → Same r x y → Same (cond (a || b) None r) (cond a u x) (cond b v y)
on true b r u v x y h = tt
on false true r u v x y h = tt
on false false r u v x y h = h

pub ready_on : (a b : Bool) (r : Option (Ready × Ready)) (u v x y : Result (State × ℕ) Refusal) → Readied r x y → Readied (cond (a || b) None r) (cond a u x) (cond b v y)
ready_on true b r u v x y h = tt
ready_on false true r u v x y h = tt
ready_on false false r u v x y h = h

once : (a : Bool) (r : Option (Ready × Ready)) (u v x y : Result (State × ℕ) Refusal) → Readied r x y → Readied (cond a None r) (cond a u x) (cond a v y)
once true r u v x y h = tt
once false r u v x y h = h

-- ── from the long-period terms on ──

placed_same : (s : Short) (k : ℕ) (u : Short) (n : ℕ) → Same (placed_two s k u n) (placed s k) (placed u n)
unfolding placed_two placed
placed_same s k u n = on (decayed s) (decayed u) (Some (_, _)) (Err Decayed) (Err Decayed) _ _ (refl, refl)

shortened_same : (a b : Solved)
    → Same (shortened_two a b) (shortened_from a.p a.am a.k a.q a.e a.l a.a) (shortened_from b.p b.am b.k b.q b.e b.l b.a)
unfolding shortened_two shortened_from plane_solved
shortened_same a b = on (negative_latus a.l) (negative_latus b.l) _ (Err SemiLatusRectum) (Err SemiLatusRectum) _ _ (placed_same _ _ _ _)

-- what is the same as two answers is the same as their equals
carry : (r : Option ((Result (State × ℕ) Refusal) × (Result (State × ℕ) Refusal))) {x y v w : (Result (State × ℕ) Refusal)} → x ≡ v → y ≡ w → Same r x y → Same r v w
carry (Some (a, b)) h k e = (e.0 ∙ h, e.1 ∙ k)
carry None h k e = tt

periodics_same : (a b : Ready) → Same (periodics_two a b) (periodics a.p a.am a.k) (periodics b.p b.am b.k)
unfolding periodics_two solved_of periodics
periodics_same a b =
    carry (shortened_two (solved_of a) (solved_of b)) (shortened_ahead _ _ _ _ _) (shortened_ahead _ _ _ _ _) (shortened_same (solved_of a) (solved_of b))

pub pair_same : (r : Option (Ready × Ready)) (x y : Result (State × ℕ) Refusal) → Readied r x y → Same (pair_of r) x y
unfolding pair_of
pair_same (Some (a, b)) x y h = carry (periodics_two a b) h.0 h.1 (periodics_same a b)
pair_same None x y h = tt

-- ── a near-Earth satellite ──

averaged_readied : (s : NearEarth) (g : Secular) (m : Mean) (g2 : Secular) (m2 : Mean) → Readied (averaged_two s g m g2 m2) (averaged_from s g m) (averaged_from s g2 m2)
unfolding averaged_two averaged_from ready_of
averaged_readied s g m g2 m2 = ready_on (outside m) (outside m2) (Some ((ready_of s g m), (ready_of s g2 m2))) (Err MeanElements) (Err MeanElements) _ _ (refl, refl)

pub near_readied : (s : NearEarth) (t t2 : Minutes) → Readied (ready_two s t t2) (sgp4_from s t) (sgp4_from s t2)
unfolding ready_two sgp4_from
near_readied s t t2 = once (no_motion s.elements.no) _ (Err MeanMotion) (Err MeanMotion) _ _ (averaged_readied s _ _ _ _)
