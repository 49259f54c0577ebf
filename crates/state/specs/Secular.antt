-- 002's sgp4: secular gravity and drag, and the mean elements (lines 3356-3440). Definitions only.
use Rattle.std.specs.Prelude.{Bool, cond, ◌||◌, Float}
use Rattle.std.specs.Float.Ieee.{neg, lt, le}
use Rattle.elementary.specs.Notation.{◌⊕◌, ◌⊖◌, ◌⊗◌, ◌⊘◌, dec}
use Rattle.elementary.specs.Power.{pow15, pow23}
use Rattle.elementary.specs.Trig.{turned, sin_of, cos_of}
use Rattle.instant.specs.declared.Minutes.{Minutes}
use Rattle.wgs72.specs.Getgravconst.{xke}
use Rattle.satellite.specs.declared.NearEarth.{NearEarth}
use Rattle.near_earth.specs.Powers.{pow3}
use Rattle.state.specs.declared.parts.Secular.{Secular}
use Rattle.state.specs.declared.parts.Mean.{Mean}
use Rattle.state.specs.declared.parts.Angles.{Angles}

-- 3357-3366: update for secular gravity and atmospheric drag
unfoldable pub gravity : NearEarth → Float → Secular
gravity satrec t =
    let xmdf = satrec.elements.mo ⊕ satrec.rates.mdot ⊗ t in
    let argpdf = satrec.elements.argpo ⊕ satrec.rates.argpdot ⊗ t in
    let nodedf = satrec.elements.nodeo ⊕ satrec.rates.nodedot ⊗ t in
    let t2 = t ⊗ t in
    record {
      argpm = argpdf;
      mm = xmdf;
      nodem = nodedf ⊕ satrec.rates.nodecf ⊗ t2;
      tempa = dec 1 0 ⊖ satrec.drag.cc1 ⊗ t;
      tempe = satrec.elements.bstar ⊗ satrec.drag.cc4 ⊗ t;
      templ = satrec.drag.t2cof ⊗ t2;
    }

-- 3370-3374: temp, of the cosine of xmdf
unfoldable pub delomg_delm : NearEarth → Float → Float → Float
delomg_delm satrec t cosxmdf =
    let delomg = satrec.drag.omgcof ⊗ t in
    let delm = satrec.drag.xmcof ⊗ (pow3 (dec 1 0 ⊕ satrec.drag.eta ⊗ cosxmdf) ⊖ satrec.drag.delmo) in
    delomg ⊕ delm

-- 3375-3384, of temp, the new mm and its sine
unfoldable pub higher_drag : NearEarth → Float → Secular → Float → Float → Float → Secular
higher_drag satrec t g temp mm sinmm =
    let t2 = t ⊗ t in
    let t3 = t2 ⊗ t in
    let t4 = t3 ⊗ t in
    record {
      mm = mm;
      argpm = g.argpm ⊖ temp;
      nodem = g.nodem;
      tempa = g.tempa ⊖ satrec.higher.d2 ⊗ t2 ⊖ satrec.higher.d3 ⊗ t3 ⊖ satrec.higher.d4 ⊗ t4;
      tempe = g.tempe ⊕ satrec.elements.bstar ⊗ satrec.drag.cc5 ⊗ (sinmm ⊖ satrec.drag.sinmao);
      templ = g.templ ⊕ satrec.higher.t3cof ⊗ t3 ⊕ t4 ⊗ (satrec.higher.t4cof ⊕ t ⊗ satrec.higher.t5cof);
    }

-- 3368-3385: where isimp is not 1
unfoldable pub dragged : NearEarth → Float → Secular → Secular
dragged satrec t g =
    let temp = delomg_delm satrec t (cos_of g.mm) in
    let mm = g.mm ⊕ temp in
    higher_drag satrec t g temp mm (sin_of mm)

-- 3353, 3356-3385
unfoldable pub secular : NearEarth → Minutes → Secular
secular satrec tsince =
    let t = tsince.0 in
    cond satrec.isimp (gravity satrec t) (dragged satrec t (gravity satrec t))

-- 3415: refusal 10, of nm
unfoldable pub no_motion : Float → Bool
no_motion nm = le nm (dec 0 0)

-- 3420 and 3422, of nm and em
unfoldable pub mean : Float → Float → Secular → Mean
mean nm em g = record { am = pow23 (xke ⊘ nm) ⊗ g.tempa ⊗ g.tempa; em = em ⊖ g.tempe }

-- 3421: nm anew, which 3563 and 3564 take
unfoldable pub motion : Float → Float
motion am = xke ⊘ pow15 am

-- 3425: refusal 11
unfoldable pub outside : Mean → Bool
outside m = le (dec 1 0) m.em || lt m.em (neg (dec 1 3)) || lt m.am (dec 95 2)

-- 3430-3431: a mean eccentricity below 0 becomes 1E-6
unfoldable pub mended : Float → Float
mended em = cond (lt em (dec 0 0)) (dec 1 6) em

-- 3432-3433, 3437-3440, of satrec.no
unfoldable pub angles : Float → Secular → Angles
angles n g =
    let mm = g.mm ⊕ n ⊗ g.templ in
    let xlm = mm ⊕ g.argpm ⊕ g.nodem in
    let nodem = turned g.nodem in
    let argpm = turned g.argpm in
    let xlm = turned xlm in
    record { nodem = nodem; argpm = argpm; mm = turned (xlm ⊖ argpm ⊖ nodem) }
