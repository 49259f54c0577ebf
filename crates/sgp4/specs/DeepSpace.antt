-- 002's sgp4 (lines 3322-3606) for a deep-space satellite: what stands under method 'd', and the steps of crate `state` around it. Definitions only.
-- 002 goes on after an error; document 01 lets the first refusal met count.
use Rattle.std.specs.Prelude.{Bool, false, cond, ◌||◌, Float, Err, Result, ℕ}
use Rattle.std.specs.Float.Ieee.{neg, lt}
use Rattle.elementary.specs.Notation.{◌⊕◌, ◌⊖◌, ◌⊗◌, dec, pi}
use Rattle.elementary.specs.Trig.{sin_of, cos_of}
use Rattle.instant.specs.declared.Minutes.{Minutes}
use Rattle.satellite.specs.declared.NearEarth.{NearEarth}
use Rattle.satellite.specs.declared.Terms.{Terms}
use Rattle.satellite.specs.declared.LunarSolar.{LunarSolar}
use Rattle.satellite.specs.declared.DeepSpace.{DeepSpace}
use Rattle.near_earth.specs.Sgp4init.{xlcof, aycof}
use Rattle.state.specs.declared.parts.Secular.{Secular}
use Rattle.state.specs.declared.parts.Angles.{Angles}
use Rattle.state.specs.declared.parts.Mean.{Mean}
use Rattle.state.specs.declared.parts.Perturbed.{Perturbed}
use Rattle.state.specs.declared.answer.Refusal.TheVariants.{MeanMotion, MeanElements, Eccentricity}
use Rattle.state.specs.declared.answer.State.{State}
use Rattle.state.specs.declared.answer.Refusal.{Refusal}
use Rattle.state.specs.Secular.{secular, no_motion, mean, outside, mended, angles}
use Rattle.state.specs.Sgp4.{periodics}
use Rattle.periodics.specs.declared.dpper.Perturbed as dpper
use Rattle.periodics.specs.Dpper.{dpper_of}
use Rattle.resonance.specs.declared.place.Place.{Place}
use Rattle.resonance.specs.declared.dspace.Mean as dspace
use Rattle.resonance.specs.Dspace.{dspace_of}

-- 3387-3389 and 3410-3411: the mean elements that dspace is handed
unfoldable pub handed : NearEarth → Secular → dspace.Mean
handed s g =
    record {
      nm = s.elements.no;
      em = s.elements.ecco;
      inclm = s.elements.inclo;
      argpm = g.argpm;
      nodem = g.nodem;
      mm = g.mm;
    }

-- the angles that dspace gives, with the drag of before
unfoldable pub updated : Secular → dspace.Mean → Secular
updated g d = record { mm = d.mm; argpm = d.argpm; nodem = d.nodem; tempa = g.tempa; tempe = g.tempe; templ = g.templ }

-- 3430-3431, 3447-3451: the mean elements that dpper is handed
unfoldable pub averages : Float → Float → Angles → dpper.Perturbed
averages em inclm a = record { ep = mended em; inclp = inclm; nodep = a.nodem; argpp = a.argpm; mp = a.mm }

-- 3471-3476
unfoldable pub righted : dpper.Perturbed → dpper.Perturbed
righted x =
    cond (lt x.inclp (dec 0 0))
    (record { ep = x.ep; inclp = neg x.inclp; nodep = x.nodep ⊕ pi; argpp = x.argpp ⊖ pi; mp = x.mp })
    x

-- 3477: refusal 12
unfoldable pub no_ellipse : Float → Bool
no_ellipse ep = lt ep (dec 0 0) || lt (dec 1 0) ep

-- 3491-3492: sinip and cosip are those of xincp
unfoldable pub inclined : dpper.Perturbed → Float → Float → Perturbed
inclined x sinip cosip =
    record { ep = x.ep; xincp = x.inclp; argpp = x.argpp; nodep = x.nodep; mp = x.mp; sinip = sinip; cosip = cosip }

-- 3493-3498 and 3551-3557: made anew from the perturbed inclination
unfoldable pub anew : Float → Float → Terms
anew sinip cosip =
    let cosisq = cosip ⊗ cosip in
    record {
      con41 = dec 3 0 ⊗ cosisq ⊖ dec 1 0;
      x1mth2 = dec 1 0 ⊖ cosisq;
      x7thm1 = dec 7 0 ⊗ cosisq ⊖ dec 1 0;
      xlcof = xlcof sinip cosip;
      aycof = aycof sinip;
    }

-- refusal 12, then from the long-period terms on
unfoldable pub perturbed : dpper.Perturbed → Float → Result (State × ℕ) Refusal
perturbed x am =
    let sinip = sin_of x.inclp in
    let cosip = cos_of x.inclp in
    cond (no_ellipse x.ep) (Err Eccentricity) (periodics (inclined x sinip cosip) am (anew sinip cosip))

-- refusal 11, then the lunar-solar periodics (3425-3482); of satrec.no
unfoldable pub averaged : LunarSolar → Minutes → Float → Float → Secular → Mean → Result (State × ℕ) Refusal
averaged ls t n inclm g m =
    cond (outside m) (Err MeanElements)
    (perturbed (righted (dpper_of false ls t (averages m.em inclm (angles n g)))) m.am)

-- refusal 10, then the mean elements (3415-3422) of what dspace gives
unfoldable pub moved : LunarSolar → Minutes → Float → dspace.Mean → Secular → Result (State × ℕ) Refusal
moved ls t n d g =
    cond (no_motion d.nm) (Err MeanMotion)
    (averaged ls t n d.inclm g (mean d.nm d.em g))

-- `p` is the position of the whole strides that t needs
unfoldable pub deep_space : NearEarth → DeepSpace → Place → Minutes → Result (State × ℕ) Refusal
deep_space s d p t =
    let g = secular s t in
    let e = dspace_of p d.integrator d.rates (handed s g) t in
    moved d.periodics t s.elements.no e (updated g e)
