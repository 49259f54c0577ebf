-- The derivatives of 002's dspace (lines 2691-2722), its text in our notation. Definitions only.
use Rattle.std.specs.Prelude.{Float}
use Rattle.std.specs.Float.Ieee.{neg}
use Rattle.elementary.specs.Notation.{◌⊕◌, ◌⊖◌, ◌⊗◌, dec}
use Rattle.elementary.specs.Trig.{sin_of, cos_of, sin_cos}
use Rattle.satellite.specs.declared.OneDay.{OneDay}
use Rattle.satellite.specs.declared.HalfDay.{HalfDay}
use Rattle.satellite.specs.declared.Resonance.{Resonance}
use Rattle.satellite.specs.declared.Resonance.TheVariants as kinds
use Rattle.resonance.specs.declared.dots.Dots.{Dots}
use Rattle.resonance.specs.declared.dots.Phases.{Phases}
use Rattle.resonance.specs.declared.dots.Waves.{Waves}

-- 2599-2606
abbrev pub fasx2 : Float
fasx2 = dec 13130908 8

abbrev pub fasx4 : Float
fasx4 = dec 28843198 7

abbrev pub fasx6 : Float
fasx6 = dec 37448087 8

abbrev pub g22 : Float
g22 = dec 57686396 7

abbrev pub g32 : Float
g32 = dec 95240898 8

abbrev pub g44 : Float
g44 = dec 18014998 7

abbrev pub g52 : Float
g52 = dec 10508330 7

abbrev pub g54 : Float
g54 = dec 44108898 7

-- near-synchronous resonance terms, 2695-2701 (xniddt there is xnddt)
unfoldable pub one_day_dots : OneDay → Float → Float → Float → Dots
one_day_dots d xli xni xfact =
    let xndt = d.del1 ⊗ sin_of (xli ⊖ fasx2) ⊕ d.del2 ⊗ sin_of (dec 2 0 ⊗ (xli ⊖ fasx4)) ⊕ d.del3 ⊗ sin_of (dec 3 0 ⊗ (xli ⊖ fasx6)) in
    let xldot = xni ⊕ xfact in
    let xnddt = d.del1 ⊗ cos_of (xli ⊖ fasx2) ⊕ dec 2 0 ⊗ d.del2 ⊗ cos_of (dec 2 0 ⊗ (xli ⊖ fasx4)) ⊕ dec 3 0 ⊗ d.del3 ⊗ cos_of (dec 3 0 ⊗ (xli ⊖ fasx6)) in
    let xnddt = xnddt ⊗ xldot in
    record {
      xndt = xndt;
      xldot = xldot;
      xnddt = xnddt;
    }

-- 2707-2708 and the ten arguments of 2709-2720, named by their coefficients
unfoldable pub phases_of : Float → Float → Phases
phases_of xomi xli =
    let x2omi = xomi ⊕ xomi in
    let x2li = xli ⊕ xli in
    record {
      p2201 = x2omi ⊕ xli ⊖ g22;
      p2211 = xli ⊖ g22;
      p3210 = xomi ⊕ xli ⊖ g32;
      p3222 = neg xomi ⊕ xli ⊖ g32;
      p4410 = x2omi ⊕ x2li ⊖ g44;
      p4422 = x2li ⊖ g44;
      p5220 = xomi ⊕ xli ⊖ g52;
      p5232 = neg xomi ⊕ xli ⊖ g52;
      p5421 = xomi ⊕ x2li ⊖ g54;
      p5433 = neg xomi ⊕ x2li ⊖ g54;
    }

-- the sine and the cosine of each
unfoldable pub waves_of : Phases → Waves
waves_of p =
    record {
      w2201 = sin_cos p.p2201;
      w2211 = sin_cos p.p2211;
      w3210 = sin_cos p.p3210;
      w3222 = sin_cos p.p3222;
      w4410 = sin_cos p.p4410;
      w4422 = sin_cos p.p4422;
      w5220 = sin_cos p.p5220;
      w5232 = sin_cos p.p5232;
      w5421 = sin_cos p.p5421;
      w5433 = sin_cos p.p5433;
    }

-- near half-day resonance terms, 2709-2721 (xniddt there is xnddt)
unfoldable pub half_day_sums : HalfDay → Waves → Float → Dots
half_day_sums h w xldot =
    let xndt =
    h.d2201 ⊗ w.w2201.sin ⊕ h.d2211 ⊗ w.w2211.sin ⊕ h.d3210 ⊗ w.w3210.sin ⊕ h.d3222 ⊗ w.w3222.sin ⊕ h.d4410 ⊗ w.w4410.sin
    ⊕ h.d4422 ⊗ w.w4422.sin ⊕ h.d5220 ⊗ w.w5220.sin ⊕ h.d5232 ⊗ w.w5232.sin ⊕ h.d5421 ⊗ w.w5421.sin ⊕ h.d5433 ⊗ w.w5433.sin in
    let xnddt =
    h.d2201 ⊗ w.w2201.cos ⊕ h.d2211 ⊗ w.w2211.cos ⊕ h.d3210 ⊗ w.w3210.cos ⊕ h.d3222 ⊗ w.w3222.cos ⊕ h.d5220 ⊗ w.w5220.cos
    ⊕ h.d5232 ⊗ w.w5232.cos ⊕ dec 2 0 ⊗ (h.d4410 ⊗ w.w4410.cos ⊕ h.d4422 ⊗ w.w4422.cos ⊕ h.d5421 ⊗ w.w5421.cos ⊕ h.d5433 ⊗ w.w5433.cos) in
    let xnddt = xnddt ⊗ xldot in
    record {
      xndt = xndt;
      xldot = xldot;
      xnddt = xnddt;
    }

-- 2707-2721, of xomi
unfoldable pub half_day_dots : HalfDay → Float → Float → Float → Float → Dots
half_day_dots h xli xni xfact xomi = half_day_sums h (waves_of (phases_of xomi xli)) (xni ⊕ xfact)

-- 2693: over the three kinds (document 01, "the stride function decides over it"); without resonance 002 has no derivatives
unfoldable pub dots_of : Resonance → Float → Float → Float → Float → Dots
dots_of kinds.None xli xni xfact xomi = record { xndt = dec 0 0; xldot = dec 0 0; xnddt = dec 0 0 }
dots_of (kinds.OneDay d) xli xni xfact xomi = one_day_dots d xli xni xfact
dots_of (kinds.HalfDay h) xli xni xfact xomi = half_day_dots h xli xni xfact xomi
