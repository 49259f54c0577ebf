-- Two times at once, as crate `state` has them for near Earth, under method 'd' and over both methods; they serve speed alone. proofs/Two: where the
-- derivatives handed in are those of the positions, what they come to is what each time comes to by itself. Definitions only.
use Rattle.std.specs.Prelude.{ℕ, cond, ◌||◌, false, ℤ, Float, None, Option, Result, Some}
use Rattle.elementary.specs.Trig.{sin_of, cos_of}
use Rattle.instant.specs.Quantity.{minutes_of}
use Rattle.instant.specs.declared.Minutes.{Minutes}
use Rattle.satellite.specs.declared.NearEarth.{NearEarth}
use Rattle.satellite.specs.declared.LunarSolar.{LunarSolar}
use Rattle.satellite.specs.declared.DeepSpace.{DeepSpace}
use Rattle.satellite.specs.declared.Method.{Method}
use Rattle.satellite.specs.declared.Method.TheVariants as methods
use Rattle.satellite.specs.declared.Model.{Model}
use Rattle.state.specs.declared.parts.Secular.{Secular}
use Rattle.state.specs.declared.parts.Ready.{Ready}
use Rattle.state.specs.declared.answer.State.{State}
use Rattle.state.specs.declared.answer.Refusal.{Refusal}
use Rattle.state.specs.Secular.{secular, no_motion, mean, outside, angles}
use Rattle.state.specs.Two as near
use Rattle.periodics.specs.declared.dpper.Perturbed as dpper
use Rattle.periodics.specs.Dpper.{dpper_of}
use Rattle.resonance.specs.declared.held.Held.{Held}
use Rattle.resonance.specs.declared.dspace.Mean as dspace
use Rattle.resonance.specs.Dspace.{dspace_by}
use Rattle.sgp4.specs.declared.Row.{Row}
use Rattle.elementary.specs.Two.{Two}
use Rattle.sgp4.specs.declared.deep_space.pairs.Drift.{Drift}
use Rattle.sgp4.specs.DeepSpace.{handed, updated, averages, righted, no_ellipse, inclined, anew}
use Rattle.sgp4.specs.Row.{row_of}
use Rattle.sgp4.specs.Kept.{row_from}

-- the perturbed elements, made ready
unfoldable pub ready_of : dpper.Perturbed → Float → Ready
ready_of x am =
    let sinip = sin_of x.inclp in
    let cosip = cos_of x.inclp in
    record { p = inclined x sinip cosip; am = am; k = anew sinip cosip }

-- refusal 12 for neither
unfoldable pub perturbed_two : dpper.Perturbed → Float → dpper.Perturbed → Float → Option (Ready × Ready)
perturbed_two x am x2 am2 = cond (no_ellipse x.ep || no_ellipse x2.ep) None (Some ((ready_of x am), (ready_of x2 am2)))

-- refusal 11 for neither, then the lunar-solar periodics
unfoldable pub averaged_two : LunarSolar → Float → Drift → Drift → Option (Ready × Ready)
averaged_two ls n a b =
    cond (outside a.m || outside b.m) None
    (perturbed_two
    (righted (dpper_of false ls a.t (averages a.m.em a.inclm (angles n a.g))))
    a.m.am
    (righted (dpper_of false ls b.t (averages b.m.em b.inclm (angles n b.g))))
    b.m.am)

-- the mean elements of what dspace gives
unfoldable pub drift_of : Minutes → dspace.Mean → Secular → Drift
drift_of t d g = record { t = t; inclm = d.inclm; g = g; m = mean d.nm d.em g }

-- refusal 10 for neither
unfoldable pub moved_two : LunarSolar → Float → Minutes → dspace.Mean → Secular → Minutes → dspace.Mean → Secular → Option (Ready × Ready)
moved_two ls n t d g t2 d2 g2 = cond (no_motion d.nm || no_motion d2.nm) None (averaged_two ls n (drift_of t d g) (drift_of t2 d2 g2))

-- `h` and `h2` are the positions of the whole strides that t and t2 need, with the derivatives there
unfoldable pub deep_two : NearEarth → DeepSpace → Held → Minutes → Held → Minutes → Option (Ready × Ready)
deep_two s d h t h2 t2 =
    let g = secular s t in
    let g2 = secular s t2 in
    let e = dspace_by h.dots h.place d.integrator d.rates (handed s g) t in
    let e2 = dspace_by h2.dots h2.place d.integrator d.rates (handed s g2) t2 in
    moved_two d.periodics s.elements.no t e (updated g e) t2 e2 (updated g2 e2)

-- over both methods
unfoldable pub ready_by : NearEarth → Method → Held → Minutes → Held → Minutes → Option (Ready × Ready)
ready_by s methods.NearEarth h t h2 t2 = near.ready_two s t t2
ready_by s (methods.DeepSpace d) h t h2 t2 = deep_two s d h t h2 t2

-- the rows of both, or where there are none of both, each by itself
unfoldable pub rows_of : Option ((Result (State × ℕ) Refusal) × (Result (State × ℕ) Refusal)) → Row → Row → Two Row
rows_of (Some (a, b)) x y = record { first = row_of a; second = row_of b }
rows_of None x y = record { first = x; second = y }

unfoldable pub rows_by : Model → Held → ℤ → Held → ℤ → Two Row
rows_by k h t h2 t2 =
    let ready = ready_by k.near k.method h (record { 0 = minutes_of t }) h2 (record { 0 = minutes_of t2 }) in
    rows_of (near.pair_of ready) (row_from k h.place t) (row_from k h2.place t2)
