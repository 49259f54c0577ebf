-- The resonance part of 002's dsinit (lines 2252-2490), its text in our notation. Definitions only.
-- `turned x` is 002's fmod(x, twopi), `pow23 x` its pow(x, x2o3). The secular rates are in the crate lunar_solar.
use Rattle.std.specs.Prelude.{Bool, cond, ◌&&◌, Float}
use Rattle.std.specs.Float.Ieee.{neg, lt, le}
use Rattle.elementary.specs.Notation.{◌⊕◌, ◌⊖◌, ◌⊗◌, ◌⊘◌, dec}
use Rattle.elementary.specs.Trig.{turned}
use Rattle.elementary.specs.Power.{pow23}
use Rattle.wgs72.specs.Getgravconst.{xke}
use Rattle.satellite.specs.declared.SecularRates.{SecularRates}
use Rattle.satellite.specs.declared.OneDay.{OneDay}
use Rattle.satellite.specs.declared.HalfDay.{HalfDay}
use Rattle.satellite.specs.declared.Resonance.{Resonance}
use Rattle.satellite.specs.declared.Resonance.TheVariants as kinds
use Rattle.satellite.specs.declared.Integrator.{Integrator}
use Rattle.resonance_terms.specs.declared.dsinit.Orbit.{Orbit}
use Rattle.resonance_terms.specs.declared.dsinit.Epoch.{Epoch}
use Rattle.resonance_terms.specs.declared.dsinit.Start.{Start}
use Rattle.resonance_terms.specs.declared.dsinit.Low.{Low}
use Rattle.resonance_terms.specs.declared.dsinit.High.{High}
use Rattle.resonance_terms.specs.declared.dsinit.Inclined.{Inclined}

-- 2290-2298
abbrev pub q22 : Float
q22 = dec 17891679 13

abbrev pub q31 : Float
q31 = dec 21460748 13

abbrev pub q33 : Float
q33 = dec 22123015 14

abbrev pub root22 : Float
root22 = dec 17891679 13

abbrev pub root44 : Float
root44 = dec 73636953 16

abbrev pub root54 : Float
root54 = dec 21765803 16

abbrev pub rptim : Float
rptim = dec 437526908801129966 20

abbrev pub root32 : Float
root32 = dec 37393792 14

abbrev pub root52 : Float
root52 = dec 11428639 14

-- irez 1, 2308: one-day (document 01, "Steps of the model")
unfoldable pub one_day : Float → Bool
one_day nm = lt nm (dec 52359877 10) && lt (dec 34906585 10) nm

-- irez 2, 2310: half-day. 000's scan shows the lower limit as 3.26E-3.
unfoldable pub half_day : Float → Float → Bool
half_day nm em = (le (dec 826 5) nm && le nm (dec 924 5)) && le (dec 5 1) em

-- 2467-2477
unfoldable pub one_day_of : Orbit → Float → OneDay
one_day_of o aonv =
    let emsq = o.emsq in
    let g200 = dec 1 0 ⊕ emsq ⊗ (neg (dec 25 1) ⊕ dec 8125 4 ⊗ emsq) in
    let g310 = dec 1 0 ⊕ dec 2 0 ⊗ emsq in
    let g300 = dec 1 0 ⊕ emsq ⊗ (neg (dec 6 0) ⊕ dec 660937 5 ⊗ emsq) in
    let f220 = dec 75 2 ⊗ (dec 1 0 ⊕ o.cosim) ⊗ (dec 1 0 ⊕ o.cosim) in
    let f311 = dec 9375 4 ⊗ o.sinim ⊗ o.sinim ⊗ (dec 1 0 ⊕ dec 3 0 ⊗ o.cosim) ⊖ dec 75 2 ⊗ (dec 1 0 ⊕ o.cosim) in
    let f330 = dec 1 0 ⊕ o.cosim in
    let f330 = dec 1875 3 ⊗ f330 ⊗ f330 ⊗ f330 in
    let del1 = dec 3 0 ⊗ o.nm ⊗ o.nm ⊗ aonv ⊗ aonv in
    let del2 = dec 2 0 ⊗ del1 ⊗ f220 ⊗ g200 ⊗ q22 in
    let del3 = dec 3 0 ⊗ del1 ⊗ f330 ⊗ g300 ⊗ q33 ⊗ aonv in
    let del1 = del1 ⊗ f311 ⊗ g310 ⊗ q31 ⊗ aonv in
    record {
      del1 = del1;
      del2 = del2;
      del3 = del3;
    }

-- 2397-2400; em and emsq are ecco and eccsq from 2375 on
unfoldable pub g520_of : Float → Float → Float → Float
g520_of em emsq eoc =
    cond (lt (dec 715 3) em)
    (neg (dec 514966 2) ⊕ dec 2993692 2 ⊗ em ⊖ dec 5408736 2 ⊗ emsq ⊕ dec 3132456 2 ⊗ eoc)
    (dec 146474 2 ⊖ dec 466475 2 ⊗ em ⊕ dec 376364 2 ⊗ emsq)

-- 2381-2401
unfoldable pub low_of : Float → Float → Float → Low
low_of em emsq eoc =
    cond (le em (dec 65 2))
    (record {
      g211 = dec 3616 3 ⊖ dec 132470 4 ⊗ em ⊕ dec 162900 4 ⊗ emsq;
      g310 = neg (dec 19302 3) ⊕ dec 1173900 4 ⊗ em ⊖ dec 2284190 4 ⊗ emsq ⊕ dec 1565910 4 ⊗ eoc;
      g322 = neg (dec 189068 4) ⊕ dec 1097927 4 ⊗ em ⊖ dec 2146334 4 ⊗ emsq ⊕ dec 1465816 4 ⊗ eoc;
      g410 = neg (dec 41122 3) ⊕ dec 2426940 4 ⊗ em ⊖ dec 4710940 4 ⊗ emsq ⊕ dec 3139530 4 ⊗ eoc;
      g422 = neg (dec 146407 3) ⊕ dec 8418800 4 ⊗ em ⊖ dec 1629014 3 ⊗ emsq ⊕ dec 10834350 4 ⊗ eoc;
      g520 = neg (dec 532114 3) ⊕ dec 3017977 3 ⊗ em ⊖ dec 5740032 3 ⊗ emsq ⊕ dec 37082760 4 ⊗ eoc;
    })
    (record {
      g211 = neg (dec 72099 3) ⊕ dec 331819 3 ⊗ em ⊖ dec 508738 3 ⊗ emsq ⊕ dec 266724 3 ⊗ eoc;
      g310 = neg (dec 346844 3) ⊕ dec 1582851 3 ⊗ em ⊖ dec 2415925 3 ⊗ emsq ⊕ dec 1246113 3 ⊗ eoc;
      g322 = neg (dec 342585 3) ⊕ dec 1554908 3 ⊗ em ⊖ dec 2366899 3 ⊗ emsq ⊕ dec 1215972 3 ⊗ eoc;
      g410 = neg (dec 1052797 3) ⊕ dec 4758686 3 ⊗ em ⊖ dec 7193992 3 ⊗ emsq ⊕ dec 3651957 3 ⊗ eoc;
      g422 = neg (dec 3581690 3) ⊕ dec 16178110 3 ⊗ em ⊖ dec 24462770 3 ⊗ emsq ⊕ dec 12422520 3 ⊗ eoc;
      g520 = g520_of em emsq eoc;
    })

-- 2403-2414 (the braces at 2402 and 2415 are page breaks: all to 2462 stands under irez == 2)
unfoldable pub high_of : Float → Float → Float → High
high_of em emsq eoc =
    cond (lt em (dec 7 1))
    (record {
      g533 = neg (dec 91922770 5) ⊕ dec 49886100 4 ⊗ em ⊖ dec 90647700 4 ⊗ emsq ⊕ dec 554221 2 ⊗ eoc;
      g521 = neg (dec 82271072 5) ⊕ dec 45686173 4 ⊗ em ⊖ dec 84914146 4 ⊗ emsq ⊕ dec 5337524 3 ⊗ eoc;
      g532 = neg (dec 85366600 5) ⊕ dec 46902500 4 ⊗ em ⊖ dec 86247700 4 ⊗ emsq ⊕ dec 53414 1 ⊗ eoc;
    })
    (record {
      g533 = neg (dec 37995780 3) ⊕ dec 16161652 2 ⊗ em ⊖ dec 22983820 2 ⊗ emsq ⊕ dec 10937794 2 ⊗ eoc;
      g521 = neg (dec 51752104 3) ⊕ dec 21891395 2 ⊗ em ⊖ dec 30946816 2 ⊗ emsq ⊕ dec 14634942 2 ⊗ eoc;
      g532 = neg (dec 40023880 3) ⊕ dec 17047089 2 ⊗ em ⊖ dec 24269948 2 ⊗ emsq ⊕ dec 11560582 2 ⊗ eoc;
    })

-- 2373, 2417-2436
unfoldable pub inclined_of : Orbit → Inclined
inclined_of o =
    let cosisq = o.cosim ⊗ o.cosim in
    let sini2 = o.sinim ⊗ o.sinim in
    let f220 = dec 75 2 ⊗ (dec 1 0 ⊕ dec 2 0 ⊗ o.cosim ⊕ cosisq) in
    let f221 = dec 15 1 ⊗ sini2 in
    let f321 = dec 1875 3 ⊗ o.sinim ⊗ (dec 1 0 ⊖ dec 2 0 ⊗ o.cosim ⊖ dec 3 0 ⊗ cosisq) in
    let f322 = neg (dec 1875 3) ⊗ o.sinim ⊗ (dec 1 0 ⊕ dec 2 0 ⊗ o.cosim ⊖ dec 3 0 ⊗ cosisq) in
    let f441 = dec 35 0 ⊗ sini2 ⊗ f220 in
    let f442 = dec 393750 4 ⊗ sini2 ⊗ sini2 in
    let f522 = dec 984375 5 ⊗ o.sinim ⊗ (sini2 ⊗ (dec 1 0 ⊖ dec 2 0 ⊗ o.cosim ⊖ dec 5 0 ⊗ cosisq) ⊕ dec 33333333 8 ⊗ (neg (dec 2 0) ⊕ dec 4 0 ⊗ o.cosim ⊕ dec 6 0 ⊗ cosisq)) in
    let f523 = o.sinim ⊗ (dec 492187512 8 ⊗ sini2 ⊗ (neg (dec 2 0) ⊖ dec 4 0 ⊗ o.cosim ⊕ dec 10 0 ⊗ cosisq) ⊕ dec 656250012 8 ⊗ (dec 1 0 ⊕ dec 2 0 ⊗ o.cosim ⊖ dec 3 0 ⊗ cosisq)) in
    let f542 = dec 2953125 5 ⊗ o.sinim ⊗ (dec 2 0 ⊖ dec 8 0 ⊗ o.cosim ⊕ cosisq ⊗ (neg (dec 12 0) ⊕ dec 8 0 ⊗ o.cosim ⊕ dec 10 0 ⊗ cosisq)) in
    let f543 = dec 2953125 5 ⊗ o.sinim ⊗ (neg (dec 2 0) ⊖ dec 8 0 ⊗ o.cosim ⊕ cosisq ⊗ (dec 12 0 ⊕ dec 8 0 ⊗ o.cosim ⊖ dec 10 0 ⊗ cosisq)) in
    record {
      f220 = f220;
      f221 = f221;
      f321 = f321;
      f322 = f322;
      f441 = f441;
      f442 = f442;
      f522 = f522;
      f523 = f523;
      f542 = f542;
      f543 = f543;
    }

-- 2437-2457
unfoldable pub half_day_sum : Inclined → Low → High → Float → Float → Float → HalfDay
half_day_sum f g k g201 nm aonv =
    let xno2 = nm ⊗ nm in
    let ainv2 = aonv ⊗ aonv in
    let temp1 = dec 3 0 ⊗ xno2 ⊗ ainv2 in
    let temp = temp1 ⊗ root22 in
    let d2201 = temp ⊗ f.f220 ⊗ g201 in
    let d2211 = temp ⊗ f.f221 ⊗ g.g211 in
    let temp1 = temp1 ⊗ aonv in
    let temp = temp1 ⊗ root32 in
    let d3210 = temp ⊗ f.f321 ⊗ g.g310 in
    let d3222 = temp ⊗ f.f322 ⊗ g.g322 in
    let temp1 = temp1 ⊗ aonv in
    let temp = dec 2 0 ⊗ temp1 ⊗ root44 in
    let d4410 = temp ⊗ f.f441 ⊗ g.g410 in
    let d4422 = temp ⊗ f.f442 ⊗ g.g422 in
    let temp1 = temp1 ⊗ aonv in
    let temp = temp1 ⊗ root52 in
    let d5220 = temp ⊗ f.f522 ⊗ g.g520 in
    let d5232 = temp ⊗ f.f523 ⊗ k.g532 in
    let temp = dec 2 0 ⊗ temp1 ⊗ root54 in
    let d5421 = temp ⊗ f.f542 ⊗ k.g521 in
    let d5433 = temp ⊗ f.f543 ⊗ k.g533 in
    record {
      d2201 = d2201;
      d2211 = d2211;
      d3210 = d3210;
      d3222 = d3222;
      d4410 = d4410;
      d4422 = d4422;
      d5220 = d5220;
      d5232 = d5232;
      d5421 = d5421;
      d5433 = d5433;
    }

-- 2375-2379, and the rest above
unfoldable pub half_day_of : Orbit → Float → HalfDay
half_day_of o aonv =
    let em = o.ecco in
    let emsq = o.eccsq in
    let eoc = em ⊗ emsq in
    let g201 = neg (dec 306 3) ⊖ (em ⊖ dec 64 2) ⊗ dec 440 3 in
    half_day_sum (inclined_of o) (low_of em emsq eoc) (high_of em emsq eoc) g201 o.nm aonv

-- 2307-2311, 2366, 2371, 2465, of aonv: the later test wins, though no mean motion meets both
unfoldable pub kind_of : Orbit → Float → Resonance
kind_of o aonv =
    cond (half_day o.nm o.em) (kinds.HalfDay (half_day_of o aonv))
    (cond (one_day o.nm) (kinds.OneDay (one_day_of o aonv)) kinds.None)

-- 2350
unfoldable pub theta_of : Float → Float → Float
theta_of gsto tc = turned (gsto ⊕ tc ⊗ rptim)

-- 2458-2459 (xlam0 there is xlamo)
unfoldable pub half_day_start : Epoch → SecularRates → Float → Start
half_day_start e s theta =
    record {
      xlamo = turned (e.mo ⊕ e.nodeo ⊕ e.nodeo ⊖ theta ⊖ theta);
      xfact = e.mdot ⊕ s.dmdt ⊕ dec 2 0 ⊗ (e.nodedot ⊕ s.dnodt ⊖ rptim) ⊖ e.no;
    }

-- 2478-2479 (xlam0 there is xlamo)
unfoldable pub one_day_start : Epoch → SecularRates → Float → Start
one_day_start e s theta =
    record {
      xlamo = turned (e.mo ⊕ e.nodeo ⊕ e.argpo ⊖ theta);
      xfact = e.mdot ⊕ e.xpidot ⊖ rptim ⊕ s.dmdt ⊕ s.domdt ⊕ s.dnodt ⊖ e.no;
    }

-- without resonance they stay the zeros that sgp4init begins with (3007, 3010)
unfoldable pub start_of : Resonance → Epoch → SecularRates → Float → Start
start_of kinds.None e s theta = record { xlamo = dec 0 0; xfact = dec 0 0 }
start_of (kinds.OneDay d) e s theta = one_day_start e s theta
start_of (kinds.HalfDay d) e s theta = half_day_start e s theta

-- 2368, of the mean motion alone
unfoldable pub aonv_of : Float → Float
aonv_of nm = pow23 (nm ⊘ xke)

-- what the integration rests on from then, of aonv
unfoldable pub dsinit_from : Orbit → Float → Epoch → SecularRates → Float → Integrator
dsinit_from o aonv e s tc =
    let kind = kind_of o aonv in
    let start = start_of kind e s (theta_of e.gsto tc) in
    record {
      resonance = kind;
      xlamo = start.xlamo;
      xfact = start.xfact;
      no = e.no;
      argpo = e.argpo;
      argpdot = e.argpdot;
      gsto = e.gsto;
    }

unfoldable pub dsinit_of : Orbit → Epoch → SecularRates → Float → Integrator
dsinit_of o e s tc = dsinit_from o (aonv_of o.nm) e s tc
