-- aonv begun ahead comes to the same: where there is no resonance nothing asks for it.
use mathlib.Core.Path.{◌≡◌, refl, ap}
use mathlib.Core.Bool.{Bool, true, false, cond, ◌||◌}
use lib.Ieee.{Float}
use Rattle.elementary.specs.Notation.{dec}
use Rattle.satellite.specs.declared.SecularRates.{SecularRates}
use Rattle.satellite.specs.declared.Resonance.{Resonance}
use Rattle.satellite.specs.declared.Resonance.TheVariants as kinds
use Rattle.resonance_terms.specs.declared.dsinit.Orbit.{Orbit}
use Rattle.resonance_terms.specs.declared.dsinit.Epoch.{Epoch}
use Rattle.resonance_terms.specs.Dsinit.{one_day, half_day, one_day_of, half_day_of, kind_of, theta_of, start_of, aonv_of, dsinit_from, dsinit_of}
use Rattle.resonance_terms.specs.Ahead.{aonv_ahead}

by_tests : (h d : Bool) (o : Orbit) (a z : Float)
    → cond h (kinds.HalfDay (half_day_of o (cond (h || d) a z))) (cond d (kinds.OneDay (one_day_of o (cond (h || d) a z))) kinds.None)
    ≡ cond h (kinds.HalfDay (half_day_of o a)) (cond d (kinds.OneDay (one_day_of o a)) kinds.None)
by_tests true d o a z = refl
by_tests false true o a z = refl
by_tests false false o a z = refl

kind_same : (o : Orbit) → kind_of o (aonv_ahead o.nm o.em) ≡ kind_of o (aonv_of o.nm)
unfolding kind_of aonv_ahead
kind_same o = by_tests (half_day o.nm o.em) (one_day o.nm) o (aonv_of o.nm) (dec 0 0)

pub same : (o : Orbit) (e : Epoch) (s : SecularRates) (tc : Float) → dsinit_from o (aonv_ahead o.nm o.em) e s tc ≡ dsinit_of o e s tc
unfolding dsinit_from dsinit_of
same o e s tc =
    ap
    (λ (k : Resonance).
    let start = start_of k e s (theta_of e.gsto tc) in
    record {
      resonance = k;
      xlamo = start.xlamo;
      xfact = start.xfact;
      no = e.no;
      argpo = e.argpo;
      argpdot = e.argpdot;
      gsto = e.gsto;
    })
    (kind_same o)
