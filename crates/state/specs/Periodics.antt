-- 002's sgp4: the long- and short-period terms (lines 3500-3506, 3524-3565). Definitions only.
use Rattle.std.specs.Prelude.{Bool, Float}
use Rattle.std.specs.Float.Ieee.{lt}
use Rattle.elementary.specs.Notation.{◌⊕◌, ◌⊖◌, ◌⊗◌, ◌⊘◌, dec}
use Rattle.elementary.specs.Root.{sqrt_of}
use Rattle.elementary.specs.Trig.{turned, sin_of, cos_of}
use Rattle.elementary.specs.Angle.{atan2_of}
use Rattle.wgs72.specs.Getgravconst.{j2, xke}
use Rattle.satellite.specs.declared.Terms.{Terms}
use Rattle.state.specs.declared.parts.Perturbed.{Perturbed}
use Rattle.state.specs.declared.parts.Long.{Long}
use Rattle.state.specs.declared.parts.Anomaly.{Anomaly}
use Rattle.state.specs.declared.parts.Latus.{Latus}
use Rattle.state.specs.declared.parts.Plane.{Plane}
use Rattle.state.specs.declared.parts.Short.{Short}

-- 3500-3506
unfoldable pub long_period : Perturbed → Float → Terms → Long
long_period perturbed am satrec =
    let ep = perturbed.ep in
    let argpp = perturbed.argpp in
    let nodep = perturbed.nodep in
    let axnl = ep ⊗ cos_of argpp in
    let temp = dec 1 0 ⊘ (am ⊗ (dec 1 0 ⊖ ep ⊗ ep)) in
    let aynl = ep ⊗ sin_of argpp ⊕ temp ⊗ satrec.aycof in
    let xl = perturbed.mp ⊕ argpp ⊕ nodep ⊕ temp ⊗ satrec.xlcof ⊗ axnl in
    record { axnl = axnl; aynl = aynl; u = turned (xl ⊖ nodep) }

-- 3527-3528
unfoldable pub latus : Long → Float → Latus
latus long am =
    let axnl = long.axnl in
    let aynl = long.aynl in
    let el2 = axnl ⊗ axnl ⊕ aynl ⊗ aynl in
    record { el2 = el2; pl = am ⊗ (dec 1 0 ⊖ el2) }

-- 3529: refusal 13
unfoldable pub negative_latus : Latus → Bool
negative_latus rectum = lt rectum.pl (dec 0 0)

-- 3525-3526, 3536-3548
unfoldable pub plane : Long → Anomaly → Float → Latus → Plane
plane long anomaly am rectum =
    let axnl = long.axnl in
    let aynl = long.aynl in
    let sineo1 = anomaly.sineo1 in
    let coseo1 = anomaly.coseo1 in
    let pl = rectum.pl in
    let ecose = axnl ⊗ coseo1 ⊕ aynl ⊗ sineo1 in
    let esine = axnl ⊗ sineo1 ⊖ aynl ⊗ coseo1 in
    let rl = am ⊗ (dec 1 0 ⊖ ecose) in
    let rdotl = sqrt_of am ⊗ esine ⊘ rl in
    let rvdotl = sqrt_of pl ⊘ rl in
    let betal = sqrt_of (dec 1 0 ⊖ rectum.el2) in
    let temp = esine ⊘ (dec 1 0 ⊕ betal) in
    let sinu = am ⊘ rl ⊗ (sineo1 ⊖ aynl ⊖ axnl ⊗ temp) in
    let cosu = am ⊘ rl ⊗ (coseo1 ⊖ axnl ⊕ aynl ⊗ temp) in
    let su = atan2_of sinu cosu in
    let sin2u = (cosu ⊕ cosu) ⊗ sinu in
    let cos2u = dec 1 0 ⊖ dec 2 0 ⊗ sinu ⊗ sinu in
    let temp = dec 1 0 ⊘ pl in
    let temp1 = dec 5 1 ⊗ j2 ⊗ temp in
    let temp2 = temp1 ⊗ temp in
    record { rl = rl; rdotl = rdotl; rvdotl = rvdotl; betal = betal; su = su; sin2u = sin2u; cos2u = cos2u; temp1 = temp1; temp2 = temp2 }

-- 3558-3565, of nm
unfoldable pub short_period : Perturbed → Float → Terms → Plane → Short
short_period perturbed nm satrec orbit =
    let cosip = perturbed.cosip in
    let sinip = perturbed.sinip in
    let temp1 = orbit.temp1 in
    let temp2 = orbit.temp2 in
    let sin2u = orbit.sin2u in
    let cos2u = orbit.cos2u in
    record {
      mrt = orbit.rl ⊗ (dec 1 0 ⊖ dec 15 1 ⊗ temp2 ⊗ orbit.betal ⊗ satrec.con41) ⊕ dec 5 1 ⊗ temp1 ⊗ satrec.x1mth2 ⊗ cos2u;
      su = orbit.su ⊖ dec 25 2 ⊗ temp2 ⊗ satrec.x7thm1 ⊗ sin2u;
      xnode = perturbed.nodep ⊕ dec 15 1 ⊗ temp2 ⊗ cosip ⊗ sin2u;
      xinc = perturbed.xincp ⊕ dec 15 1 ⊗ temp2 ⊗ cosip ⊗ sinip ⊗ cos2u;
      mvt = orbit.rdotl ⊖ nm ⊗ temp1 ⊗ satrec.x1mth2 ⊗ sin2u ⊘ xke;
      rvdot = orbit.rvdotl ⊕ nm ⊗ temp1 ⊗ (satrec.x1mth2 ⊗ cos2u ⊕ dec 15 1 ⊗ satrec.con41) ⊘ xke;
    }

-- 3598: refusal 14
unfoldable pub decayed : Short → Bool
decayed short = lt short.mrt (dec 1 0)
