-- Where the numbers that set-up keeps are as 002 computes them, sgp4 with them is 002's own.
use mathlib.Core.Path.{◌≡◌, ap, ◌∙◌}
use mathlib.Core.Bool.{cond}
use lib.Ieee.{Float}
use Rattle.instant.specs.declared.Minutes.{Minutes}
use Rattle.satellite.specs.declared.NearEarth.{NearEarth}
use Rattle.near_earth.specs.Kept.{AsComputed}
use Rattle.state.specs.declared.parts.Secular.{Secular}
use Rattle.state.specs.declared.parts.Mean.{Mean}
use Rattle.state.specs.declared.parts.Angles.{Angles}
use Rattle.state.specs.declared.parts.Perturbed.{Perturbed}
use Rattle.state.specs.declared.answer.Refusal.TheVariants.{MeanMotion, MeanElements}
use Rattle.std.specs.Prelude.{Err, Result, ℕ}
use Rattle.state.specs.declared.answer.State.{State}
use Rattle.state.specs.declared.answer.Refusal.{Refusal}
use Rattle.state.specs.Secular.{secular, no_motion, mean, outside, angles}
use Rattle.state.specs.Sgp4.{periodics, unperturbed, averaged, sgp4}
use Rattle.state.specs.Kept.{mean_from, unperturbed_from, averaged_from, sgp4_from}

elements_as_computed : (s : NearEarth) → AsComputed s → (em : Float) (a : Angles) → unperturbed_from s em a ≡ unperturbed s em a
unfolding unperturbed_from unperturbed
elements_as_computed s h em a = simp (h.sine, h.cosine)

averaged_as_computed : (s : NearEarth) → AsComputed s → (g : Secular) (m : Mean) → averaged_from s g m ≡ averaged s g m
unfolding averaged_from averaged
averaged_as_computed s h g m =
    ap (λ (p : Perturbed). cond (outside m) (Err MeanElements) (periodics p m.am s.terms))
    (elements_as_computed s h m.em (angles s.elements.no g))

pub sgp4_as_computed : (s : NearEarth) → AsComputed s → (t : Minutes) → sgp4_from s t ≡ sgp4 s t
unfolding sgp4_from sgp4 mean_from mean
sgp4_as_computed s h t =
    let g = secular s t in
    ap (λ (a : Float). cond (no_motion s.elements.no) (Err MeanMotion) (averaged_from s g (mean_from a s.elements.ecco g))) h.axis
    ∙ ap (λ (x : Result (State × ℕ) Refusal). cond (no_motion s.elements.no) (Err MeanMotion) x) (averaged_as_computed s h g (mean s.elements.no s.elements.ecco g))
