-- 002's sgp4 (lines 3322-3606) for a near-Earth satellite, and its steps from the perturbed elements on, which deep space shares. Definitions only.
-- 002 goes on after an error; document 01 lets the first refusal met count.
use Rattle.std.specs.Prelude.{ℕ, cond, Float, Err, Ok, Result}
use Rattle.elementary.specs.Trig.{sin_of, cos_of}
use Rattle.instant.specs.declared.Minutes.{Minutes}
use Rattle.satellite.specs.declared.NearEarth.{NearEarth}
use Rattle.satellite.specs.declared.Terms.{Terms}
use Rattle.state.specs.declared.parts.Secular.{Secular}
use Rattle.state.specs.declared.parts.Mean.{Mean}
use Rattle.state.specs.declared.parts.Angles.{Angles}
use Rattle.state.specs.declared.parts.Perturbed.{Perturbed}
use Rattle.state.specs.declared.parts.Long.{Long}
use Rattle.state.specs.declared.parts.Anomaly.{Anomaly}
use Rattle.state.specs.declared.parts.Short.{Short}
use Rattle.state.specs.declared.answer.State.{State}
use Rattle.state.specs.declared.answer.Refusal.TheVariants.{MeanMotion, MeanElements, SemiLatusRectum, Decayed, NotFinite}
use Rattle.state.specs.declared.answer.Refusal.{Refusal}
use Rattle.state.specs.Secular.{secular, no_motion, mean, motion, outside, mended, angles}
use Rattle.state.specs.Kepler.{kepler}
use Rattle.state.specs.Periodics.{long_period, latus, negative_latus, plane, short_period, decayed}
use Rattle.state.specs.Orientation.{state, finite_state}

-- refusal 15, else the answer
unfoldable pub given : State → ℕ → Result (State × ℕ) Refusal
given s rounds = cond (finite_state s) (Ok (s, rounds)) (Err NotFinite)

-- refusal 14 (3598), then orientation, position and velocity (3573-3594)
unfoldable pub placed : Short → ℕ → Result (State × ℕ) Refusal
placed s rounds = cond (decayed s) (Err Decayed) (given (state s) rounds)

-- refusal 13, then the short-period terms (3524-3565)
unfoldable pub shortened : Perturbed → Float → Terms → Long → Anomaly → Result (State × ℕ) Refusal
shortened perturbed am satrec long anomaly =
    let rectum = latus long am in
    cond (negative_latus rectum) (Err SemiLatusRectum)
    (placed (short_period perturbed (motion am) satrec (plane long anomaly am rectum)) anomaly.rounds)

-- from the long-period terms on (3500-3606)
unfoldable pub periodics : Perturbed → Float → Terms → Result (State × ℕ) Refusal
periodics perturbed am satrec =
    let long = long_period perturbed am satrec in
    shortened perturbed am satrec long (kepler long)

-- 3430-3431, 3443-3453: a near-Earth satellite's perturbed elements are the mean ones; inclm is satrec.inclo (3389)
unfoldable pub unperturbed : NearEarth → Float → Angles → Perturbed
unperturbed satrec em a =
    record {
      ep = mended em;
      xincp = satrec.elements.inclo;
      argpp = a.argpm;
      nodep = a.nodem;
      mp = a.mm;
      sinip = sin_of satrec.elements.inclo;
      cosip = cos_of satrec.elements.inclo;
    }

-- refusal 11, then the mean elements (3425-3453)
unfoldable pub averaged : NearEarth → Secular → Mean → Result (State × ℕ) Refusal
averaged satrec g m =
    cond (outside m) (Err MeanElements)
    (periodics (unperturbed satrec m.em (angles satrec.elements.no g)) m.am satrec.terms)

-- refusal 10 (3415), of nm, which is satrec.no (3387); em is satrec.ecco (3388)
unfoldable pub sgp4 : NearEarth → Minutes → Result (State × ℕ) Refusal
sgp4 satrec tsince =
    let g = secular satrec tsince in
    cond (no_motion satrec.elements.no) (Err MeanMotion)
    (averaged satrec g (mean satrec.elements.no satrec.elements.ecco g))
