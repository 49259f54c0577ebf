-- 002's sgp4init (lines 2949-3225) but for deep space. Definitions only.
use Rattle.std.specs.Prelude.{Bool, true, false, cond, ◌||◌, Float}
use Rattle.std.specs.Float.Ieee.{neg, lt}
use Rattle.elementary.specs.Notation.{◌⊕◌, ◌⊖◌, ◌⊗◌, ◌⊘◌, dec}
use Rattle.elementary.specs.Power.{pow35, abs_of}
use Rattle.elementary.specs.Trig.{sin_of, cos_of}
use Rattle.wgs72.specs.Getgravconst.{radiusearthkm, j2, j4, j3oj2}
use Rattle.wgs72.specs.Computed.{temp4, ss, qzms2t, x2o3}
use Rattle.satellite.specs.declared.Elements.{Elements}
use Rattle.satellite.specs.declared.Drag.{Drag}
use Rattle.satellite.specs.declared.Higher.{Higher}
use Rattle.satellite.specs.declared.Rates.{Rates}
use Rattle.satellite.specs.declared.Terms.{Terms}
use Rattle.satellite.specs.declared.NearEarth.{NearEarth}
use Rattle.near_earth.specs.Powers.{pow3, pow4}
use Rattle.near_earth.specs.Initl.{guard}
use Rattle.near_earth.specs.declared.parts.Initl.{Initl}
use Rattle.near_earth.specs.declared.parts.Atmosphere.{Atmosphere}
use Rattle.near_earth.specs.declared.parts.Shape.{Shape}
unfoldable pub use Rattle.near_earth.specs.Kept.{kept}

-- 3057
unfoldable pub simple : Float → Bool
simple rp = lt rp (dec 220 0 ⊘ radiusearthkm ⊕ dec 1 0)

-- 3069-3070
unfoldable pub altered : Float → Atmosphere
altered sfour =
    record {
      qzms24 = pow4 ((dec 120 0 ⊖ sfour) ⊘ radiusearthkm);
      sfour = sfour ⊘ radiusearthkm ⊕ dec 1 0;
    }

-- 3059-3071: for perigees below 156 km, s and qoms2t are altered
unfoldable pub atmosphere : Float → Atmosphere
atmosphere rp =
    let perige = (rp ⊖ dec 1 0) ⊗ radiusearthkm in
    cond (lt perige (dec 156 0))
    (cond (lt perige (dec 98 0)) (altered (dec 20 0)) (altered (perige ⊖ dec 78 0)))
    (record { sfour = ss; qzms24 = qzms2t })

-- 3074-3080
unfoldable pub shape : Float → Float → Atmosphere → Shape
shape ao ecco a =
    let tsi = dec 1 0 ⊘ (ao ⊖ a.sfour) in
    let eta = ao ⊗ ecco ⊗ tsi in
    let etasq = eta ⊗ eta in
    let eeta = ecco ⊗ eta in
    let psisq = abs_of (dec 1 0 ⊖ etasq) in
    let coef = a.qzms24 ⊗ pow4 tsi in
    let coef1 = coef ⊘ pow35 psisq in
    record { tsi = tsi; eta = eta; etasq = etasq; eeta = eeta; psisq = psisq; coef = coef; coef1 = coef1 }

-- 3081-3083
unfoldable pub cc2 : Initl → Shape → Float
cc2 i s =
    s.coef1 ⊗ i.no ⊗ (i.ao ⊗ (dec 1 0 ⊕ dec 15 1 ⊗ s.etasq ⊕ s.eeta
    ⊗ (dec 4 0 ⊕ s.etasq)) ⊕ dec 375 3 ⊗ j2 ⊗ s.tsi ⊘ s.psisq ⊗ i.con41
    ⊗ (dec 8 0 ⊕ dec 3 0 ⊗ s.etasq ⊗ (dec 8 0 ⊕ s.etasq)))

-- 3085-3087
unfoldable pub cc3 : Float → Initl → Shape → Float
cc3 ecco i s =
    cond (lt (dec 1 4) ecco)
    (neg (dec 2 0) ⊗ s.coef ⊗ s.tsi ⊗ j3oj2 ⊗ i.no ⊗ i.sinio ⊘ ecco)
    (dec 0 0)

-- 3089-3094, of the cosine of 2.0 * argpo
unfoldable pub cc4 : Float → Float → Float → Initl → Shape → Float
cc4 ecco cos2argpo x1mth2 i s =
    dec 2 0 ⊗ i.no ⊗ s.coef1 ⊗ i.ao ⊗ i.omeosq
    ⊗ (s.eta ⊗ (dec 2 0 ⊕ dec 5 1 ⊗ s.etasq) ⊕ ecco
    ⊗ (dec 5 1 ⊕ dec 2 0 ⊗ s.etasq) ⊖ j2 ⊗ s.tsi ⊘ (i.ao ⊗ s.psisq)
    ⊗ (neg (dec 3 0) ⊗ i.con41 ⊗ (dec 1 0 ⊖ dec 2 0 ⊗ s.eeta ⊕ s.etasq
    ⊗ (dec 15 1 ⊖ dec 5 1 ⊗ s.eeta)) ⊕ dec 75 2 ⊗ x1mth2
    ⊗ (dec 2 0 ⊗ s.etasq ⊖ s.eeta ⊗ (dec 1 0 ⊕ s.etasq)) ⊗ cos2argpo))

-- 3095-3096
unfoldable pub cc5 : Initl → Shape → Float
cc5 i s =
    dec 2 0 ⊗ s.coef1 ⊗ i.ao ⊗ i.omeosq ⊗ (dec 1 0 ⊕ dec 275 2
    ⊗ (s.etasq ⊕ s.eeta) ⊕ s.eeta ⊗ s.etasq)

-- 3072, 3097-3108, 3114
unfoldable pub rates : Initl → Float → Rates
rates i cc1 =
    let pinvsq = dec 1 0 ⊘ i.posq in
    let cosio4 = i.cosio2 ⊗ i.cosio2 in
    let temp1 = dec 15 1 ⊗ j2 ⊗ pinvsq ⊗ i.no in
    let temp2 = dec 5 1 ⊗ temp1 ⊗ j2 ⊗ pinvsq in
    let temp3 = neg (dec 46875 5) ⊗ j4 ⊗ pinvsq ⊗ pinvsq ⊗ i.no in
    let mdot =
    i.no ⊕ dec 5 1 ⊗ temp1 ⊗ i.rteosq ⊗ i.con41 ⊕ dec 625 4
    ⊗ temp2 ⊗ i.rteosq ⊗ (dec 13 0 ⊖ dec 78 0 ⊗ i.cosio2 ⊕ dec 137 0 ⊗ cosio4)
    in
    let argpdot =
    neg (dec 5 1) ⊗ temp1 ⊗ i.con42 ⊕ dec 625 4 ⊗ temp2
    ⊗ (dec 7 0 ⊖ dec 114 0 ⊗ i.cosio2 ⊕ dec 395 0 ⊗ cosio4)
    ⊕ temp3 ⊗ (dec 3 0 ⊖ dec 36 0 ⊗ i.cosio2 ⊕ dec 49 0 ⊗ cosio4)
    in
    let xhdot1 = neg temp1 ⊗ i.cosio in
    let nodedot =
    xhdot1 ⊕ (dec 5 1 ⊗ temp2 ⊗ (dec 4 0 ⊖ dec 19 0 ⊗ i.cosio2)
    ⊕ dec 2 0 ⊗ temp3 ⊗ (dec 3 0 ⊖ dec 7 0 ⊗ i.cosio2)) ⊗ i.cosio
    in
    record { mdot = mdot; argpdot = argpdot; nodedot = nodedot; nodecf = dec 35 1 ⊗ i.omeosq ⊗ xhdot1 ⊗ cc1 }

-- 3111-3113
unfoldable pub xmcof : Float → Float → Shape → Float
xmcof ecco bstar s = cond (lt (dec 1 4) ecco) (neg x2o3 ⊗ s.coef ⊗ bstar ⊘ s.eeta) (dec 0 0)

-- 3084, 3110, 3115, 3127-3128 and the above
unfoldable pub drag : Elements → Initl → Shape → Drag
drag el i s =
    let cc1 = el.bstar ⊗ cc2 i s in
    record {
      eta = s.eta;
      cc1 = cc1;
      cc4 = cc4 el.ecco (cos_of (dec 2 0 ⊗ el.argpo)) (dec 1 0 ⊖ i.cosio2) i s;
      cc5 = cc5 i s;
      omgcof = el.bstar ⊗ cc3 el.ecco i s ⊗ cos_of el.argpo;
      xmcof = xmcof el.ecco el.bstar s;
      t2cof = dec 15 1 ⊗ cc1;
      delmo = pow3 (dec 1 0 ⊕ s.eta ⊗ cos_of el.mo);
      sinmao = sin_of el.mo;
    }

-- 3116-3125; sgp4 3494-3498 has it too: 002's fix for an inclination of 180 degrees
unfoldable pub xlcof : Float → Float → Float
xlcof sinio cosio =
    let top = neg (dec 25 2) ⊗ j3oj2 ⊗ sinio ⊗ (dec 3 0 ⊕ dec 5 0 ⊗ cosio) in
    cond (lt (dec 15 13) (abs_of (cosio ⊕ dec 1 0)))
    (top ⊘ (dec 1 0 ⊕ cosio))
    (top ⊘ temp4)

-- 3126; sgp4 3493 has it too
unfoldable pub aycof : Float → Float
aycof sinio = neg (dec 5 1) ⊗ j3oj2 ⊗ sinio

-- 3088, 3129 and the above
unfoldable pub terms : Initl → Terms
terms i =
    record {
      con41 = i.con41;
      x1mth2 = dec 1 0 ⊖ i.cosio2;
      x7thm1 = dec 7 0 ⊗ i.cosio2 ⊖ dec 1 0;
      xlcof = xlcof i.sinio i.cosio;
      aycof = aycof i.sinio;
    }

-- 3192-3214: set variables if not deep space; they stay zero where isimp is 1
unfoldable pub higher : Bool → Float → Float → Float → Float → Higher
higher true ao sfour tsi cc1 =
    record { d2 = dec 0 0; d3 = dec 0 0; d4 = dec 0 0; t3cof = dec 0 0; t4cof = dec 0 0; t5cof = dec 0 0 }
higher false ao sfour tsi cc1 =
    let cc1sq = cc1 ⊗ cc1 in
    let d2 = dec 4 0 ⊗ ao ⊗ tsi ⊗ cc1sq in
    let temp = d2 ⊗ tsi ⊗ cc1 ⊘ dec 3 0 in
    let d3 = (dec 17 0 ⊗ ao ⊕ sfour) ⊗ temp in
    let d4 = dec 5 1 ⊗ temp ⊗ ao ⊗ tsi ⊗ (dec 221 0 ⊗ ao ⊕ dec 31 0 ⊗ sfour) ⊗ cc1 in
    let t3cof = d2 ⊕ dec 2 0 ⊗ cc1sq in
    let t4cof = dec 25 2 ⊗ (dec 3 0 ⊗ d3 ⊕ cc1 ⊗ (dec 12 0 ⊗ d2 ⊕ dec 10 0 ⊗ cc1sq)) in
    let t5cof =
    dec 2 1 ⊗ (dec 3 0 ⊗ d4 ⊕ dec 12 0 ⊗ cc1 ⊗ d3
    ⊕ dec 6 0 ⊗ d2 ⊗ d2 ⊕ dec 15 0 ⊗ cc1sq ⊗ (dec 2 0 ⊗ d2 ⊕ cc1sq))
    in
    record { d2 = d2; d3 = d3; d4 = d4; t3cof = t3cof; t4cof = t4cof; t5cof = t5cof }

-- 3018-3024, with no as initl recovers it
unfoldable pub recovered : Elements → Initl → Elements
recovered el i =
    record { bstar = el.bstar; ecco = el.ecco; argpo = el.argpo; inclo = el.inclo; mo = el.mo; no = i.no; nodeo = el.nodeo }

-- 3056-3129 and 3192-3214, under the guard; `kept` is not in 002's record (specs/Kept)
unfoldable pub filled : Elements → Initl → Bool → NearEarth
filled el i deep =
    let a = atmosphere i.rp in
    let s = shape i.ao el.ecco a in
    let d = drag el i s in
    let isimp = simple i.rp || deep in
    record {
      elements = recovered el i;
      isimp = isimp;
      drag = d;
      higher = higher isimp i.ao a.sfour s.tsi d.cc1;
      rates = rates i d.cc1;
      terms = terms i;
      kept = kept i;
    }

-- where the guard does not hold all stays as 2983-2991 set it, but for what initl gives
unfoldable pub zeroed : Elements → Initl → NearEarth
zeroed el i =
    let z = dec 0 0 in
    record {
      elements = recovered el i;
      isimp = false;
      drag = record { eta = z; cc1 = z; cc4 = z; cc5 = z; omgcof = z; xmcof = z; t2cof = z; delmo = z; sinmao = z };
      higher = record { d2 = z; d3 = z; d4 = z; t3cof = z; t4cof = z; t5cof = z };
      rates = record { mdot = z; argpdot = z; nodedot = z; nodecf = z };
      terms = record { con41 = i.con41; x1mth2 = z; x7thm1 = z; xlcof = z; aycof = z };
      kept = kept i;
    }

-- of the elements, what initl gives for them, and whether they are deep space
unfoldable pub near_earth : Elements → Initl → Bool → NearEarth
near_earth el i deep = cond (guard i) (filled el i deep) (zeroed el i)
