-- sgp4 for a near-Earth satellite with the numbers that set-up keeps (near_earth's specs/Kept) in place of 002's expressions: this serves speed alone.
-- It is what the code does with any satellite handed in. `sgp4_as_computed` of proofs/Kept: where these numbers are as 002 computes them, it is `sgp4`.
-- Definitions only.
use Rattle.std.specs.Prelude.{cond, Float, Err, Result, ℕ}
use Rattle.elementary.specs.Notation.{◌⊖◌, ◌⊗◌}
use Rattle.instant.specs.declared.Minutes.{Minutes}
use Rattle.satellite.specs.declared.NearEarth.{NearEarth}
use Rattle.state.specs.declared.parts.Secular.{Secular}
use Rattle.state.specs.declared.parts.Mean.{Mean}
use Rattle.state.specs.declared.parts.Angles.{Angles}
use Rattle.state.specs.declared.parts.Perturbed.{Perturbed}
use Rattle.state.specs.declared.answer.Refusal.TheVariants.{MeanMotion, MeanElements}
use Rattle.state.specs.declared.answer.State.{State}
use Rattle.state.specs.declared.answer.Refusal.{Refusal}
use Rattle.state.specs.Secular.{secular, no_motion, outside, mended, angles}
use Rattle.state.specs.Sgp4.{periodics}

-- `mean` of pow(xke / nm, x2o3) and em
unfoldable pub mean_from : Float → Float → Secular → Mean
mean_from a em g = record { am = a ⊗ g.tempa ⊗ g.tempa; em = em ⊖ g.tempe }

-- `unperturbed`, with the sine and the cosine that are kept
unfoldable pub unperturbed_from : NearEarth → Float → Angles → Perturbed
unperturbed_from satrec em a =
    record {
      ep = mended em;
      xincp = satrec.elements.inclo;
      argpp = a.argpm;
      nodep = a.nodem;
      mp = a.mm;
      sinip = satrec.kept.sinio;
      cosip = satrec.kept.cosio;
    }

-- `averaged` of these
unfoldable pub averaged_from : NearEarth → Secular → Mean → Result (State × ℕ) Refusal
averaged_from satrec g m =
    cond (outside m) (Err MeanElements)
    (periodics (unperturbed_from satrec m.em (angles satrec.elements.no g)) m.am satrec.terms)

-- `sgp4` of these, with the axis that is kept
unfoldable pub sgp4_from : NearEarth → Minutes → Result (State × ℕ) Refusal
sgp4_from satrec tsince =
    let g = secular satrec tsince in
    cond (no_motion satrec.elements.no) (Err MeanMotion)
    (averaged_from satrec g (mean_from satrec.kept.ao satrec.elements.ecco g))
