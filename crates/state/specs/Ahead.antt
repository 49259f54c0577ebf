-- What does not wait for Kepler's equation is begun before it, and the root of am, which lines 3421 and 3537 both take, is taken once: this serves
-- speed alone. `shortened_ahead` of proofs/Ahead: it comes to the same. Definitions only.
use Rattle.std.specs.Prelude.{cond, Float, Err, Result, ℕ}
use Rattle.elementary.specs.Notation.{◌⊕◌, ◌⊖◌, ◌⊗◌, ◌⊘◌, dec}
use Rattle.elementary.specs.Root.{sqrt_of}
use Rattle.elementary.specs.Angle.{atan2_of}
use Rattle.wgs72.specs.Getgravconst.{j2, xke}
use Rattle.satellite.specs.declared.Terms.{Terms}
use Rattle.state.specs.declared.parts.Perturbed.{Perturbed}
use Rattle.state.specs.declared.parts.Long.{Long}
use Rattle.state.specs.declared.parts.Anomaly.{Anomaly}
use Rattle.state.specs.declared.parts.Latus.{Latus}
use Rattle.state.specs.declared.parts.Ahead.{Ahead}
use Rattle.state.specs.declared.parts.InPlane.{InPlane}
use Rattle.state.specs.declared.parts.Plane.{Plane}
use Rattle.state.specs.declared.answer.Refusal.TheVariants.{SemiLatusRectum}
use Rattle.state.specs.declared.answer.State.{State}
use Rattle.state.specs.declared.answer.Refusal.{Refusal}
use Rattle.state.specs.Periodics.{negative_latus, short_period}
use Rattle.state.specs.Sgp4.{placed}

unfoldable pub ahead_of : Float → Latus → Ahead
ahead_of am rectum =
    let root = sqrt_of am in
    record { root = root; nm = xke ⊘ (am ⊗ root); rootpl = sqrt_of rectum.pl; betal = sqrt_of (dec 1 0 ⊖ rectum.el2) }

-- `plane` of what is ahead, up to the arctangent
unfoldable pub in_plane : Long → Anomaly → Float → Ahead → InPlane
in_plane long anomaly am ahead =
    let axnl = long.axnl in
    let aynl = long.aynl in
    let sineo1 = anomaly.sineo1 in
    let coseo1 = anomaly.coseo1 in
    let ecose = axnl ⊗ coseo1 ⊕ aynl ⊗ sineo1 in
    let esine = axnl ⊗ sineo1 ⊖ aynl ⊗ coseo1 in
    let rl = am ⊗ (dec 1 0 ⊖ ecose) in
    let rdotl = ahead.root ⊗ esine ⊘ rl in
    let rvdotl = ahead.rootpl ⊘ rl in
    let temp = esine ⊘ (dec 1 0 ⊕ ahead.betal) in
    let sinu = am ⊘ rl ⊗ (sineo1 ⊖ aynl ⊖ axnl ⊗ temp) in
    let cosu = am ⊘ rl ⊗ (coseo1 ⊖ axnl ⊕ aynl ⊗ temp) in
    record { rl = rl; rdotl = rdotl; rvdotl = rvdotl; sinu = sinu; cosu = cosu }

-- and from it on
unfoldable pub plane_of : InPlane → Float → Latus → Float → Plane
plane_of i su rectum betal =
    let sin2u = (i.cosu ⊕ i.cosu) ⊗ i.sinu in
    let cos2u = dec 1 0 ⊖ dec 2 0 ⊗ i.sinu ⊗ i.sinu in
    let temp = dec 1 0 ⊘ rectum.pl in
    let temp1 = dec 5 1 ⊗ j2 ⊗ temp in
    let temp2 = temp1 ⊗ temp in
    record { rl = i.rl; rdotl = i.rdotl; rvdotl = i.rvdotl; betal = betal; su = su; sin2u = sin2u; cos2u = cos2u; temp1 = temp1; temp2 = temp2 }

unfoldable pub plane_from : Long → Anomaly → Float → Latus → Ahead → Plane
plane_from long anomaly am rectum ahead = let i = in_plane long anomaly am ahead in plane_of i (atan2_of i.sinu i.cosu) rectum ahead.betal

-- `shortened` of what is ahead
unfoldable pub shortened_from : Perturbed → Float → Terms → Long → Anomaly → Latus → Ahead → Result (State × ℕ) Refusal
shortened_from perturbed am satrec long anomaly rectum ahead =
    cond (negative_latus rectum) (Err SemiLatusRectum)
    (placed (short_period perturbed ahead.nm satrec (plane_from long anomaly am rectum ahead)) anomaly.rounds)
