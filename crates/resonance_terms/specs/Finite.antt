-- Whether every number that dsinit puts into 002's record for the resonance is finite (refusal 8). Definitions only.
-- no, argpo, argpdot and gsto stand in the record too; they are kept beside the coefficients, and tested with them.
use Rattle.std.specs.Prelude.{Bool, true, ◌&&◌}
use Rattle.elementary.specs.Notation.{finite}
use Rattle.satellite.specs.declared.OneDay.{OneDay}
use Rattle.satellite.specs.declared.HalfDay.{HalfDay}
use Rattle.satellite.specs.declared.Resonance.{Resonance}
use Rattle.satellite.specs.declared.Resonance.TheVariants as kinds
use Rattle.satellite.specs.declared.Integrator.{Integrator}

unfoldable pub finite_one_day : OneDay → Bool
finite_one_day d = finite d.del1 && finite d.del2 && finite d.del3

unfoldable pub finite_half_day : HalfDay → Bool
finite_half_day h =
    finite h.d2201 && finite h.d2211 && finite h.d3210 && finite h.d3222 && finite h.d4410
    && finite h.d4422 && finite h.d5220 && finite h.d5232 && finite h.d5421 && finite h.d5433

unfoldable pub finite_kind : Resonance → Bool
finite_kind kinds.None = true
finite_kind (kinds.OneDay d) = finite_one_day d
finite_kind (kinds.HalfDay h) = finite_half_day h

unfoldable pub finite_integrator : Integrator → Bool
finite_integrator i =
    finite_kind i.resonance && finite i.xlamo && finite i.xfact && finite i.no && finite i.argpo && finite i.argpdot && finite i.gsto
