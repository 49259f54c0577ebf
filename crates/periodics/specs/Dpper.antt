-- 002's dpper (lines 1738-1872), its text in our notation. Definitions only.
use Rattle.std.specs.Prelude.{Bool, cond, Float}
use Rattle.std.specs.Float.Ieee.{neg, lt, le}
use Rattle.elementary.specs.Notation.{◌⊕◌, ◌⊖◌, ◌⊗◌, ◌⊘◌, dec, pi, two_pi}
use Rattle.elementary.specs.Trig.{sin_of, cos_of, turned}
use Rattle.elementary.specs.Angle.{atan2_of}
use Rattle.elementary.specs.Power.{abs_of}
use Rattle.instant.specs.declared.Minutes.{Minutes}
use Rattle.satellite.specs.declared.Periodics.{Periodics}
use Rattle.satellite.specs.declared.LunarSolar.{LunarSolar}
use Rattle.periodics.specs.declared.dpper.Factors.{Factors}
use Rattle.periodics.specs.declared.dpper.Sums.{Sums}
use Rattle.periodics.specs.declared.dpper.Changes.{Changes}
use Rattle.periodics.specs.declared.dpper.Perturbed.{Perturbed}
use Rattle.lunar_solar.specs.Dscom.{zes, zel}
use Rattle.lunar_solar.specs.Dsinit.{zns, znl}

-- 1772-1775 and 1785-1787: the body's mean anomaly, `init` being 002's init == 'y'
unfoldable pub zm_of : Bool → Float → Float → Float → Float
zm_of init zm0 zn t = cond init zm0 (zm0 ⊕ zn ⊗ t)

-- 1776-1779 and 1788-1791
unfoldable pub factors_of : Float → Float → Factors
factors_of zm ze =
    let zf = zm ⊕ dec 2 0 ⊗ ze ⊗ sin_of zm in
    let sinzf = sin_of zf in
    let f2 = dec 5 1 ⊗ sinzf ⊗ sinzf ⊖ dec 25 2 in
    let f3 = neg (dec 5 1) ⊗ sinzf ⊗ cos_of zf in
    record {
      sinzf = sinzf;
      f2 = f2;
      f3 = f3;
    }

-- 1780-1784 for the Sun, 1792-1796 for the Moon
unfoldable pub sums_of : Periodics → Factors → Sums
sums_of p w =
    record {
      e = p.e2 ⊗ w.f2 ⊕ p.e3 ⊗ w.f3;
      i = p.i2 ⊗ w.f2 ⊕ p.i3 ⊗ w.f3;
      l = p.l2 ⊗ w.f2 ⊕ p.l3 ⊗ w.f3 ⊕ p.l4 ⊗ w.sinzf;
      gh = p.gh2 ⊗ w.f2 ⊕ p.gh3 ⊗ w.f3 ⊕ p.gh4 ⊗ w.sinzf;
      h = p.h2 ⊗ w.f2 ⊕ p.h3 ⊗ w.f3;
    }

-- 1797-1801, and 1812-1816 with peo, pinco, plo, pgho and pho, which dscom sets to 0
unfoldable pub changes_of : Sums → Sums → Changes
changes_of s m =
    record {
      pe = s.e ⊕ m.e ⊖ dec 0 0;
      pinc = s.i ⊕ m.i ⊖ dec 0 0;
      pl = s.l ⊕ m.l ⊖ dec 0 0;
      pgh = s.gh ⊕ m.gh ⊖ dec 0 0;
      ph = s.h ⊕ m.h ⊖ dec 0 0;
    }

unfoldable pub changes_at : Bool → LunarSolar → Float → Changes
changes_at init ls t =
    let s = sums_of ls.sun (factors_of (zm_of init ls.zmos zns t) zes) in
    let m = sums_of ls.moon (factors_of (zm_of init ls.zmol znl t) zel) in
    changes_of s m

-- 1817-1818
unfoldable pub inclined_of : Changes → Perturbed → Perturbed
inclined_of k x =
    record {
      ep = x.ep ⊕ k.pe;
      inclp = x.inclp ⊕ k.pinc;
      nodep = x.nodep;
      argpp = x.argpp;
      mp = x.mp;
    }

-- 1832-1836: apply periodics directly
unfoldable pub direct_of : Changes → Perturbed → Float → Float → Perturbed
direct_of k x sinip cosip =
    let ph = k.ph ⊘ sinip in
    let pgh = k.pgh ⊖ cosip ⊗ ph in
    record {
      ep = x.ep;
      inclp = x.inclp;
      nodep = x.nodep ⊕ ph;
      argpp = x.argpp ⊕ pgh;
      mp = x.mp ⊕ k.pl;
    }

-- 1847-1854, 1860: the node before it is brought to the turn of the old one
unfoldable pub lyddane_node : Changes → Perturbed → Float → Float → Float
lyddane_node k x sinip cosip =
    let sinop = sin_of x.nodep in
    let cosop = cos_of x.nodep in
    let alfdp = sinip ⊗ sinop in
    let betdp = sinip ⊗ cosop in
    let dalf = k.ph ⊗ cosop ⊕ k.pinc ⊗ cosip ⊗ sinop in
    let dbet = neg k.ph ⊗ sinop ⊕ k.pinc ⊗ cosip ⊗ cosop in
    let alfdp = alfdp ⊕ dalf in
    let betdp = betdp ⊕ dbet in
    atan2_of alfdp betdp

-- 1861-1865; apart is the magnitude of xnoh - nodep
unfoldable pub turn_of : Float → Float → Float → Float
turn_of xnoh nodep apart = cond (lt pi apart) (cond (lt nodep xnoh) (nodep ⊕ two_pi) (nodep ⊖ two_pi)) nodep

-- 1847-1867: apply periodics with lyddane modification (1838's brace is a page break: this is the else of 1830)
unfoldable pub lyddane_of : Changes → Perturbed → Float → Float → Perturbed
lyddane_of k x sinip cosip =
    let node = lyddane_node k x sinip cosip in
    let nodep = turned x.nodep in
    let xls = x.mp ⊕ x.argpp ⊕ cosip ⊗ nodep in
    let dls = k.pl ⊕ k.pgh ⊖ k.pinc ⊗ nodep ⊗ sinip in
    let xls = xls ⊕ dls in
    let xnoh = nodep in
    let nodep = turn_of xnoh node (abs_of (xnoh ⊖ node)) in
    let mp = x.mp ⊕ k.pl in
    record {
      ep = x.ep;
      inclp = x.inclp;
      nodep = nodep;
      argpp = xls ⊖ mp ⊖ cosip ⊗ nodep;
      mp = mp;
    }

-- 1830: Lyddane's form below 0.2 rad of the perturbed inclination (document 01, "Steps of the model"; ildm of 1808 is never read)
unfoldable pub applied_of : Changes → Perturbed → Float → Float → Perturbed
applied_of k x sinip cosip = cond (le (dec 2 1) x.inclp) (direct_of k x sinip cosip) (lyddane_of k x sinip cosip)

-- 1803: at set-up the changes are worked out and applied to nothing (`Setup`)
unfoldable pub dpper_of : Bool → LunarSolar → Minutes → Perturbed → Perturbed
dpper_of init ls t x =
    let k = changes_at init ls t.0 in
    let y = inclined_of k x in
    cond init x (applied_of k y (sin_of y.inclp) (cos_of y.inclp))
