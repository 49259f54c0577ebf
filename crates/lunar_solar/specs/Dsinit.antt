-- The secular rates of 002's dsinit (lines 2313-2346), its text in our notation. Definitions only.
-- The rest of dsinit is in the crate resonance.
use Rattle.std.specs.Prelude.{Bool, cond, ◌||◌, Float}
use Rattle.std.specs.Float.Ieee.{neg, lt, ne}
use Rattle.elementary.specs.Notation.{◌⊕◌, ◌⊖◌, ◌⊗◌, ◌⊘◌, dec, pi}
use Rattle.satellite.specs.declared.SecularRates.{SecularRates}
use Rattle.lunar_solar.specs.declared.dscom.Angles.{Angles}
use Rattle.lunar_solar.specs.declared.dscom.Pass.{Pass}
use Rattle.lunar_solar.specs.declared.dscom.Common.{Common}
use Rattle.lunar_solar.specs.declared.dsinit.BodyRates.{BodyRates}

-- 2300-2301
abbrev pub zns : Float
zns = dec 119459 10

abbrev pub znl : Float
znl = dec 15835218 11

-- One body: ses, sis, sls, sghs, shs of 2314-2318 for the Sun. For the Moon the second terms of 2327-2329, sghl and shll of 2330-2331.
-- zl is -zns for the Sun and znl for the Moon, as 002 signs them: 2316 negates, 2329 subtracts.
unfoldable pub rates_of : Pass → Float → Float → Float → BodyRates
rates_of p emsq zn zl =
    record {
      e = p.s.s1 ⊗ zn ⊗ p.s.s5;
      i = p.s.s2 ⊗ zn ⊗ (p.z.z11 ⊕ p.z.z13);
      l = zl ⊗ p.s.s3 ⊗ (p.z.z1 ⊕ p.z.z3 ⊖ dec 14 0 ⊖ dec 6 0 ⊗ emsq);
      gh = p.s.s4 ⊗ zn ⊗ (p.z.z31 ⊕ p.z.z33 ⊖ dec 6 0);
      h = neg zn ⊗ p.s.s2 ⊗ (p.z.z21 ⊕ p.z.z23);
    }

-- 2319-2321 and 2332-2334: none within 3 degrees of the equator
unfoldable pub guarded_of : Float → Float → Float
guarded_of inclm sh = cond (lt inclm (dec 52359877 9) || lt (pi ⊖ dec 52359877 9) inclm) (dec 0 0) sh

-- 2322-2324, 2327-2329 and 2335-2346: the Sun's rates s and the Moon's m together; `inclined` is sinim != 0.0
unfoldable pub joined_by : Bool → BodyRates → BodyRates → Float → Float → Angles → SecularRates
joined_by inclined s m shs shll o =
    let shs = cond inclined (shs ⊘ o.sinim) shs in
    let sgs = s.gh ⊖ o.cosim ⊗ shs in
    let domdt = sgs ⊕ m.gh in
    let dnodt = shs in
    record {
      dedt = s.e ⊕ m.e;
      didt = s.i ⊕ m.i;
      dmdt = s.l ⊖ m.l;
      dnodt = cond inclined (dnodt ⊕ shll ⊘ o.sinim) dnodt;
      domdt = cond inclined (domdt ⊖ o.cosim ⊘ o.sinim ⊗ shll) domdt;
    }

unfoldable pub joined_of : BodyRates → BodyRates → Float → Float → Angles → SecularRates
joined_of s m shs shll o = joined_by (ne o.sinim (dec 0 0)) s m shs shll o

unfoldable pub secular_of : Common → Float → SecularRates
secular_of c inclm =
    let s = rates_of c.sun c.shape.emsq zns (neg zns) in
    let m = rates_of c.moon c.shape.emsq znl znl in
    joined_of s m (guarded_of inclm s.h) (guarded_of inclm m.h) c.angles
