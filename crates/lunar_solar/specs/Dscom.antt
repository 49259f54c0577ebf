-- 002's dscom (lines 1946-2163), its text in our notation: the same names, the same order of operations. Definitions only.
-- Where our copy of 002 is misprinted the comment says so. `turned x` is 002's fmod(x, twopi).
use Rattle.std.specs.Prelude.{Float}
use Rattle.std.specs.Float.Ieee.{neg}
use Rattle.elementary.specs.Notation.{◌⊕◌, ◌⊖◌, ◌⊗◌, ◌⊘◌, dec}
use Rattle.elementary.specs.Trig.{sin_of, cos_of, turned}
use Rattle.elementary.specs.Root.{sqrt_of}
use Rattle.elementary.specs.Angle.{atan2_of}
use Rattle.satellite.specs.declared.Periodics.{Periodics}
use Rattle.satellite.specs.declared.LunarSolar.{LunarSolar}
use Rattle.lunar_solar.specs.declared.dscom.Angles.{Angles}
use Rattle.lunar_solar.specs.declared.dscom.Lunar.{Lunar}
use Rattle.lunar_solar.specs.declared.dscom.Shape.{Shape}
use Rattle.lunar_solar.specs.declared.dscom.Body.{Body}
use Rattle.lunar_solar.specs.declared.dscom.Axes.{Axes}
use Rattle.lunar_solar.specs.declared.dscom.S.{S}
use Rattle.lunar_solar.specs.declared.dscom.Z.{Z}
use Rattle.lunar_solar.specs.declared.dscom.Pass.{Pass}
use Rattle.lunar_solar.specs.declared.dscom.Common.{Common}

-- the constants of 1977-1984
abbrev pub zes : Float
zes = dec 1675 5

abbrev pub zel : Float
zel = dec 5490 5

-- 1998-2003
unfoldable pub angles_of : Float → Float → Float → Angles
angles_of argpp inclp nodep =
    record {
      snodm = sin_of nodep;
      cnodm = cos_of nodep;
      sinomm = sin_of argpp;
      cosomm = cos_of argpp;
      sinim = sin_of inclp;
      cosim = cos_of inclp;
    }

-- 1996-1997, 2004-2006
unfoldable pub shape_of : Float → Float → Shape
shape_of ep np =
    let nm = np in
    let em = ep in
    let emsq = em ⊗ em in
    let betasq = dec 1 0 ⊖ emsq in
    let rtemsq = sqrt_of betasq in
    record {
      nm = nm;
      em = em;
      emsq = emsq;
      betasq = betasq;
      rtemsq = rtemsq;
    }

-- 2014
unfoldable pub day_of : Float → Float → Float
day_of epoch tc = epoch ⊕ dec 182615 1 ⊕ tc ⊘ dec 1440 0

-- 2022
unfoldable pub gam_of : Float → Float
gam_of day = dec 58351514 7 ⊕ dec 19443680 10 ⊗ day

-- the solar terms that the loop starts with, 2031-2037 (clss there is c1ss)
unfoldable pub sun_of : Angles → Body
sun_of o =
    record {
      zcosg = dec 1945905 7;
      zsing = neg (dec 98088458 8);
      zcosi = dec 91744867 8;
      zsini = dec 39785416 8;
      zcosh = o.cnodm;
      zsinh = o.snodm;
      cc = dec 29864797 13;
    }

-- the Moon's angles, 2015-2028, of the epoch and tc alone
unfoldable pub lunar_of : Float → Float → Lunar
lunar_of epoch tc =
    let day = day_of epoch tc in
    let xnodce = turned (dec 45236020 7 ⊖ dec 92422029 11 ⊗ day) in
    let stem = sin_of xnodce in
    let ctem = cos_of xnodce in
    let zcosil = dec 91375164 8 ⊖ dec 3568096 8 ⊗ ctem in
    let zsinil = sqrt_of (dec 1 0 ⊖ zcosil ⊗ zcosil) in
    let zsinhl = dec 89683511 9 ⊗ stem ⊘ zsinil in
    let zcoshl = sqrt_of (dec 1 0 ⊖ zsinhl ⊗ zsinhl) in
    let zx = dec 39785416 8 ⊗ stem ⊘ zsinil in
    let zy = zcoshl ⊗ ctem ⊕ dec 91744867 8 ⊗ zsinhl ⊗ stem in
    let zx = atan2_of zx zy in
    let zx = gam_of day ⊕ zx ⊖ xnodce in
    record { zcosgl = cos_of zx; zsingl = sin_of zx; zcosil = zcosil; zsinil = zsinil; zcoshl = zcoshl; zsinhl = zsinhl }

-- the lunar terms, 2116-2122. Misprints: 2119 is zsini = zsinil, 2120 has zsinhl ⊗ snodm, 2122 is cc = c1l.
unfoldable pub moon_of : Angles → Lunar → Body
moon_of o l =
    record {
      zcosg = l.zcosgl;
      zsing = l.zsingl;
      zcosi = l.zcosil;
      zsini = l.zsinil;
      zcosh = l.zcoshl ⊗ o.cnodm ⊕ l.zsinhl ⊗ o.snodm;
      zsinh = o.snodm ⊗ l.zcoshl ⊖ o.cnodm ⊗ l.zsinhl;
      cc = dec 47968065 14;
    }

-- one turn of the loop: 2042-2067 (the braces at 2047, 2048 are a page break)
unfoldable pub axes_of : Body → Angles → Axes
axes_of b o =
    let a1 = b.zcosg ⊗ b.zcosh ⊕ b.zsing ⊗ b.zcosi ⊗ b.zsinh in
    let a3 = neg b.zsing ⊗ b.zcosh ⊕ b.zcosg ⊗ b.zcosi ⊗ b.zsinh in
    let a7 = neg b.zcosg ⊗ b.zsinh ⊕ b.zsing ⊗ b.zcosi ⊗ b.zcosh in
    let a8 = b.zsing ⊗ b.zsini in
    let a9 = b.zsing ⊗ b.zsinh ⊕ b.zcosg ⊗ b.zcosi ⊗ b.zcosh in
    let a10 = b.zcosg ⊗ b.zsini in
    let a2 = o.cosim ⊗ a7 ⊕ o.sinim ⊗ a8 in
    let a4 = o.cosim ⊗ a9 ⊕ o.sinim ⊗ a10 in
    let a5 = neg o.sinim ⊗ a7 ⊕ o.cosim ⊗ a8 in
    let a6 = neg o.sinim ⊗ a9 ⊕ o.cosim ⊗ a10 in
    let x1 = a1 ⊗ o.cosomm ⊕ a2 ⊗ o.sinomm in
    let x2 = a3 ⊗ o.cosomm ⊕ a4 ⊗ o.sinomm in
    let x3 = neg a1 ⊗ o.sinomm ⊕ a2 ⊗ o.cosomm in
    let x4 = neg a3 ⊗ o.sinomm ⊕ a4 ⊗ o.cosomm in
    let x5 = a5 ⊗ o.sinomm in
    let x6 = a6 ⊗ o.sinomm in
    let x7 = a5 ⊗ o.cosomm in
    let x8 = a6 ⊗ o.cosomm in
    record {
      a1 = a1;
      a2 = a2;
      a3 = a3;
      a4 = a4;
      a5 = a5;
      a6 = a6;
      x1 = x1;
      x2 = x2;
      x3 = x3;
      x4 = x4;
      x5 = x5;
      x6 = x6;
      x7 = x7;
      x8 = x8;
    }

-- 2069-2085
unfoldable pub z_of : Axes → Shape → Z
z_of x h =
    let z31 = dec 12 0 ⊗ x.x1 ⊗ x.x1 ⊖ dec 3 0 ⊗ x.x3 ⊗ x.x3 in
    let z32 = dec 24 0 ⊗ x.x1 ⊗ x.x2 ⊖ dec 6 0 ⊗ x.x3 ⊗ x.x4 in
    let z33 = dec 12 0 ⊗ x.x2 ⊗ x.x2 ⊖ dec 3 0 ⊗ x.x4 ⊗ x.x4 in
    let z1 = dec 3 0 ⊗ (x.a1 ⊗ x.a1 ⊕ x.a2 ⊗ x.a2) ⊕ z31 ⊗ h.emsq in
    let z2 = dec 6 0 ⊗ (x.a1 ⊗ x.a3 ⊕ x.a2 ⊗ x.a4) ⊕ z32 ⊗ h.emsq in
    let z3 = dec 3 0 ⊗ (x.a3 ⊗ x.a3 ⊕ x.a4 ⊗ x.a4) ⊕ z33 ⊗ h.emsq in
    let z11 = neg (dec 6 0) ⊗ x.a1 ⊗ x.a5 ⊕ h.emsq ⊗ (neg (dec 24 0) ⊗ x.x1 ⊗ x.x7 ⊖ dec 6 0 ⊗ x.x3 ⊗ x.x5) in
    let z12 = neg (dec 6 0) ⊗ (x.a1 ⊗ x.a6 ⊕ x.a3 ⊗ x.a5) ⊕ h.emsq ⊗ (neg (dec 24 0) ⊗ (x.x2 ⊗ x.x7 ⊕ x.x1 ⊗ x.x8) ⊖ dec 6 0 ⊗ (x.x3 ⊗ x.x6 ⊕ x.x4 ⊗ x.x5)) in
    let z13 = neg (dec 6 0) ⊗ x.a3 ⊗ x.a6 ⊕ h.emsq ⊗ (neg (dec 24 0) ⊗ x.x2 ⊗ x.x8 ⊖ dec 6 0 ⊗ x.x4 ⊗ x.x6) in
    let z21 = dec 6 0 ⊗ x.a2 ⊗ x.a5 ⊕ h.emsq ⊗ (dec 24 0 ⊗ x.x1 ⊗ x.x5 ⊖ dec 6 0 ⊗ x.x3 ⊗ x.x7) in
    let z22 = dec 6 0 ⊗ (x.a4 ⊗ x.a5 ⊕ x.a2 ⊗ x.a6) ⊕ h.emsq ⊗ (dec 24 0 ⊗ (x.x2 ⊗ x.x5 ⊕ x.x1 ⊗ x.x6) ⊖ dec 6 0 ⊗ (x.x4 ⊗ x.x7 ⊕ x.x3 ⊗ x.x8)) in
    let z23 = dec 6 0 ⊗ x.a4 ⊗ x.a6 ⊕ h.emsq ⊗ (dec 24 0 ⊗ x.x2 ⊗ x.x6 ⊖ dec 6 0 ⊗ x.x4 ⊗ x.x8) in
    record {
      z1 = z1 ⊕ z1 ⊕ h.betasq ⊗ z31;
      z2 = z2 ⊕ z2 ⊕ h.betasq ⊗ z32;
      z3 = z3 ⊕ z3 ⊕ h.betasq ⊗ z33;
      z11 = z11;
      z12 = z12;
      z13 = z13;
      z21 = z21;
      z22 = z22;
      z23 = z23;
      z31 = z31;
      z32 = z32;
      z33 = z33;
    }

-- 2038, 2086-2092
unfoldable pub s_of : Axes → Shape → Float → S
s_of x h cc =
    let xnoi = dec 1 0 ⊘ h.nm in
    let s3 = cc ⊗ xnoi in
    let s2 = neg (dec 5 1) ⊗ s3 ⊘ h.rtemsq in
    let s4 = s3 ⊗ h.rtemsq in
    let s1 = neg (dec 15 0) ⊗ h.em ⊗ s4 in
    let s5 = x.x1 ⊗ x.x3 ⊕ x.x2 ⊗ x.x4 in
    let s6 = x.x2 ⊗ x.x3 ⊕ x.x1 ⊗ x.x4 in
    let s7 = x.x2 ⊗ x.x4 ⊖ x.x1 ⊗ x.x3 in
    record {
      s1 = s1;
      s2 = s2;
      s3 = s3;
      s4 = s4;
      s5 = s5;
      s6 = s6;
      s7 = s7;
    }

-- the pass that serves Sun and Moon, 2040-2124
unfoldable pub pass_of : Body → Angles → Shape → Pass
pass_of b o h =
    let x = axes_of b o in
    record {
      s = s_of x h b.cc;
      z = z_of x h;
    }

-- 2130-2146 for the Sun (2140, 2141 are sl3, sl4), 2149-2160 for the Moon: the same text
unfoldable pub periodics_of : Pass → Float → Float → Periodics
periodics_of p emsq ze =
    record {
      e2 = dec 2 0 ⊗ p.s.s1 ⊗ p.s.s6;
      e3 = dec 2 0 ⊗ p.s.s1 ⊗ p.s.s7;
      i2 = dec 2 0 ⊗ p.s.s2 ⊗ p.z.z12;
      i3 = dec 2 0 ⊗ p.s.s2 ⊗ (p.z.z13 ⊖ p.z.z11);
      l2 = neg (dec 2 0) ⊗ p.s.s3 ⊗ p.z.z2;
      l3 = neg (dec 2 0) ⊗ p.s.s3 ⊗ (p.z.z3 ⊖ p.z.z1);
      l4 = neg (dec 2 0) ⊗ p.s.s3 ⊗ (neg (dec 21 0) ⊖ dec 9 0 ⊗ emsq) ⊗ ze;
      gh2 = dec 2 0 ⊗ p.s.s4 ⊗ p.z.z32;
      gh3 = dec 2 0 ⊗ p.s.s4 ⊗ (p.z.z33 ⊖ p.z.z31);
      gh4 = neg (dec 18 0) ⊗ p.s.s4 ⊗ ze;
      h2 = neg (dec 2 0) ⊗ p.s.s2 ⊗ p.z.z22;
      h3 = neg (dec 2 0) ⊗ p.s.s2 ⊗ (p.z.z23 ⊖ p.z.z21);
    }

-- 2126 (zmo1 there is zmol)
unfoldable pub zmol_of : Float → Float → Float
zmol_of day gam = turned (dec 47199672 7 ⊕ dec 22997150 8 ⊗ day ⊖ gam)

-- 2127 (zmo5 there is zmos)
unfoldable pub zmos_of : Float → Float
zmos_of day = turned (dec 62565837 7 ⊕ dec 17201977 9 ⊗ day)

-- what the record keeps for dpper; peo, pinco, plo, pgho and pho of 2009-2013 are 0
unfoldable pub both_of : Pass → Pass → Float → Float → Float → LunarSolar
both_of sun moon emsq day gam =
    record {
      sun = periodics_of sun emsq zes;
      moon = periodics_of moon emsq zel;
      zmos = zmos_of day;
      zmol = zmol_of day gam;
    }

-- the solar pass, then the lunar pass
unfoldable pub dscom_from : Angles → Lunar → Float → Float → Float → Float → Common
dscom_from angles lunar epoch ep tc np =
    let shape = shape_of ep np in
    let day = day_of epoch tc in
    let gam = gam_of day in
    let sun = pass_of (sun_of angles) angles shape in
    let moon = pass_of (moon_of angles lunar) angles shape in
    record {
      angles = angles;
      shape = shape;
      sun = sun;
      moon = moon;
      periodics = both_of sun moon shape.emsq day gam;
    }

unfoldable pub dscom_of : Float → Float → Float → Float → Float → Float → Float → Common
dscom_of epoch ep argpp tc inclp nodep np = dscom_from (angles_of argpp inclp nodep) (lunar_of epoch tc) epoch ep tc np
