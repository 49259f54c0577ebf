-- Whether every number that dscom and dsinit put into 002's record is finite (refusal 8). Definitions only.
use Rattle.std.specs.Prelude.{Bool, ◌&&◌}
use Rattle.elementary.specs.Notation.{finite}
use Rattle.satellite.specs.declared.Periodics.{Periodics}
use Rattle.satellite.specs.declared.LunarSolar.{LunarSolar}
use Rattle.satellite.specs.declared.SecularRates.{SecularRates}

unfoldable pub finite_periodics : Periodics → Bool
finite_periodics p =
    finite p.e2 && finite p.e3 && finite p.i2 && finite p.i3 && finite p.l2 && finite p.l3 && finite p.l4
    && finite p.gh2 && finite p.gh3 && finite p.gh4 && finite p.h2 && finite p.h3

unfoldable pub finite_lunar_solar : LunarSolar → Bool
finite_lunar_solar ls = finite_periodics ls.sun && finite_periodics ls.moon && finite ls.zmos && finite ls.zmol

unfoldable pub finite_rates : SecularRates → Bool
finite_rates s = finite s.dedt && finite s.didt && finite s.dmdt && finite s.dnodt && finite s.domdt
