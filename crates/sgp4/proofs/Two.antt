-- Two times at once come to what each comes to by itself.
use mathlib.Core.Path.{◌≡◌, refl, sym, ap, ◌∙◌}
use lib.IntN.{ℤ}
use lib.Ieee.{Float}
use Rattle.instant.specs.Quantity.{minutes_of}
use Rattle.instant.specs.declared.Minutes.{Minutes}
use Rattle.satellite.specs.declared.NearEarth.{NearEarth}
use Rattle.satellite.specs.declared.LunarSolar.{LunarSolar}
use Rattle.satellite.specs.declared.DeepSpace.{DeepSpace}
use Rattle.satellite.specs.declared.Model.{Model}
use Rattle.satellite.specs.declared.Method.{Method}
use Rattle.satellite.specs.declared.Method.TheVariants as methods
use Rattle.state.specs.declared.parts.Secular.{Secular}
use Rattle.state.specs.declared.answer.Refusal.TheVariants.{MeanMotion, MeanElements, Eccentricity}
use Rattle.std.specs.Prelude.{Err, Result, ℕ, None, Option, Some}
use Rattle.state.specs.declared.answer.State.{State}
use Rattle.state.specs.declared.answer.Refusal.{Refusal}
use Rattle.state.specs.declared.parts.Ready.{Ready}
use Rattle.state.specs.Secular.{no_motion, outside}
use Rattle.state.specs.Two.{pair_of}
use Rattle.state.proofs.Two.{Same, Readied, ready_on, pair_same, near_readied}
use Rattle.periodics.specs.declared.dpper.Perturbed as dpper
use Rattle.resonance.specs.declared.place.Place.{Place}
use Rattle.resonance.specs.declared.held.Held.{Held}
use Rattle.resonance.specs.declared.dspace.Mean as dspace
use Rattle.resonance.specs.Dspace.{dspace_of}
use Rattle.resonance.specs.Held.{held_at}
use Rattle.sgp4.specs.declared.Row.{Row}
use Rattle.elementary.specs.Two.{Two}
use Rattle.sgp4.specs.declared.deep_space.pairs.Drift.{Drift}
use Rattle.sgp4.specs.DeepSpace.{no_ellipse, perturbed, averaged, moved, deep_space}
use Rattle.sgp4.specs.Sgp4.{integrator_by, integrator_of}
use Rattle.sgp4.specs.Row.{row_of}
use Rattle.sgp4.specs.Kept.{state_by_from, state_from, row_from}
use Rattle.sgp4.specs.Two.{ready_of, perturbed_two, averaged_two, drift_of, moved_two, deep_two, ready_by, rows_of, rows_by}

perturbed_readied : (x : dpper.Perturbed) (m : Float) (x2 : dpper.Perturbed) (m2 : Float) → Readied (perturbed_two x m x2 m2) (perturbed x m) (perturbed x2 m2)
unfolding perturbed_two perturbed ready_of
perturbed_readied x m x2 m2 = ready_on (no_ellipse x.ep) (no_ellipse x2.ep) (Some ((ready_of x m), (ready_of x2 m2))) (Err Eccentricity) (Err Eccentricity) _ _ (refl, refl)

averaged_readied : (ls : LunarSolar) (n : Float) (a b : Drift) → Readied (averaged_two ls n a b) (averaged ls a.t n a.inclm a.g a.m) (averaged ls b.t n b.inclm b.g b.m)
unfolding averaged_two averaged
averaged_readied ls n a b = ready_on (outside a.m) (outside b.m) _ (Err MeanElements) (Err MeanElements) _ _ (perturbed_readied _ _ _ _)

moved_readied : (ls : LunarSolar) (n : Float) (t : Minutes) (d : dspace.Mean) (g : Secular) (t2 : Minutes) (d2 : dspace.Mean) (g2 : Secular)
    → Readied (moved_two ls n t d g t2 d2 g2) (moved ls t n d g) (moved ls t2 n d2 g2)
unfolding moved_two moved drift_of
moved_readied ls n t d g t2 d2 g2 = ready_on (no_motion d.nm) (no_motion d2.nm) _ (Err MeanMotion) (Err MeanMotion) _ _ (averaged_readied ls n (drift_of t d g) (drift_of t2 d2 g2))

deep_readied : (s : NearEarth) (d : DeepSpace) (p : Place) (t : Minutes) (p2 : Place) (t2 : Minutes)
    → Readied (deep_two s d (held_at d.integrator p) t (held_at d.integrator p2) t2) (deep_space s d p t) (deep_space s d p2 t2)
unfolding deep_two deep_space dspace_of held_at
deep_readied s d p t p2 t2 = moved_readied _ _ t _ _ t2 _ _

readied : (s : NearEarth) (method : Method) (p : Place) (t : Minutes) (p2 : Place) (t2 : Minutes)
    → Readied (ready_by s method (held_at (integrator_by method) p) t (held_at (integrator_by method) p2) t2) (state_by_from s method p t) (state_by_from s method p2 t2)
unfolding ready_by state_by_from integrator_by
readied s methods.NearEarth p t p2 t2 = near_readied s t t2
readied s (methods.DeepSpace d) p t p2 t2 = deep_readied s d p t p2 t2

pair_by : (s : NearEarth) (method : Method) (p : Place) (t : Minutes) (p2 : Place) (t2 : Minutes)
    → Same (pair_of (ready_by s method (held_at (integrator_by method) p) t (held_at (integrator_by method) p2) t2)) (state_by_from s method p t) (state_by_from s method p2 t2)
pair_by s method p t p2 t2 = pair_same (ready_by s method (held_at (integrator_by method) p) t (held_at (integrator_by method) p2) t2) _ _ (readied s method p t p2 t2)

-- ── two rows ──

both_rows : (a b c d : Row) → a ≡ c → b ≡ d → ◌≡◌ {A = Two Row} (record { first = a; second = b }) (record { first = c; second = d })
both_rows a b c d h k = ap (λ (x : Row). record { first = x; second = b }) h ∙ ap (λ (x : Row). record { first = c; second = x }) k

rows_same : (q : Option ((Result (State × ℕ) Refusal) × (Result (State × ℕ) Refusal))) (x y : Result (State × ℕ) Refusal) → Same q x y → rows_of q (row_of x) (row_of y) ≡ record { first = row_of x; second = row_of y }
unfolding rows_of
rows_same (Some (a, b)) x y h = both_rows _ _ _ _ (ap row_of h.0) (ap row_of h.1)
rows_same None x y h = refl

-- with the derivatives of the positions, each row is that of its time by itself
pub rows_held : (k : Model) (p : Place) (t : ℤ) (p2 : Place) (t2 : ℤ)
    → rows_by k (held_at (integrator_of k) p) t (held_at (integrator_of k) p2) t2 ≡ record { first = row_from k p t; second = row_from k p2 t2 }
unfolding rows_by row_from state_from integrator_of held_at
rows_held k p t p2 t2 = rows_same _ _ _ (pair_by k.near k.method p (record { 0 = minutes_of t }) p2 (record { 0 = minutes_of t2 }))

-- the pair that is found, from the steps that lead to it
found : (k : Model) (h : Held) (t : ℤ) (h2 : Held) (t2 : ℤ) (x y : Float) (r : Option (Ready × Ready)) (q : Option ((Result (State × ℕ) Refusal) × (Result (State × ℕ) Refusal)))
    → x ≡ minutes_of t → y ≡ minutes_of t2 → r ≡ ready_by k.near k.method h (record { 0 = x }) h2 (record { 0 = y }) → q ≡ pair_of r
    → q ≡ pair_of (ready_by k.near k.method h (record { 0 = minutes_of t }) h2 (record { 0 = minutes_of t2 }))
found k h t h2 t2 x y r q hx hy hr hq =
    hq
    ∙ ap pair_of
    (hr ∙ ap (λ (z : Float). ready_by k.near k.method h (record { 0 = z }) h2 (record { 0 = y })) hx
    ∙ ap (λ (z : Float). ready_by k.near k.method h (record { 0 = minutes_of t }) h2 (record { 0 = z })) hy)

pub rows_both : (k : Model) (h : Held) (t : ℤ) (h2 : Held) (t2 : ℤ) (x y : Float) (r : Option (Ready × Ready)) (q : Option ((Result (State × ℕ) Refusal) × (Result (State × ℕ) Refusal))) (a b : Result (State × ℕ) Refusal) (c d : Row)
    → x ≡ minutes_of t → y ≡ minutes_of t2 → r ≡ ready_by k.near k.method h (record { 0 = x }) h2 (record { 0 = y }) → q ≡ pair_of r → q ≡ Some (a, b)
    → c ≡ row_of a → d ≡ row_of b → ◌≡◌ {A = Two Row} (record { first = c; second = d }) (rows_by k h t h2 t2)
unfolding rows_by rows_of
rows_both k h t h2 t2 x y r q a b c d hx hy hr hq e hc hd =
    both_rows c d _ _ hc hd
    ∙ ap (λ (z : Option ((Result (State × ℕ) Refusal) × (Result (State × ℕ) Refusal))). rows_of z (row_from k h.place t) (row_from k h2.place t2)) (sym e ∙ found k h t h2 t2 x y r q hx hy hr hq)

pub rows_apart : (k : Model) (h : Held) (t : ℤ) (h2 : Held) (t2 : ℤ) (x y : Float) (r : Option (Ready × Ready)) (q : Option ((Result (State × ℕ) Refusal) × (Result (State × ℕ) Refusal))) (c d : Row)
    → x ≡ minutes_of t → y ≡ minutes_of t2 → r ≡ ready_by k.near k.method h (record { 0 = x }) h2 (record { 0 = y }) → q ≡ pair_of r → q ≡ None
    → c ≡ row_from k h.place t → d ≡ row_from k h2.place t2 → ◌≡◌ {A = Two Row} (record { first = c; second = d }) (rows_by k h t h2 t2)
unfolding rows_by rows_of
rows_apart k h t h2 t2 x y r q c d hx hy hr hq e hc hd =
    both_rows c d _ _ hc hd
    ∙ ap (λ (z : Option ((Result (State × ℕ) Refusal) × (Result (State × ℕ) Refusal))). rows_of z (row_from k h.place t) (row_from k h2.place t2)) (sym e ∙ found k h t h2 t2 x y r q hx hy hr hq)
