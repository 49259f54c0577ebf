-- 002's sgp4 over its two methods. Definitions only.
use Rattle.elementary.specs.Notation.{dec}
use Rattle.instant.specs.declared.Minutes.{Minutes}
use Rattle.satellite.specs.declared.NearEarth.{NearEarth}
use Rattle.satellite.specs.declared.Resonance.TheVariants as kinds
use Rattle.satellite.specs.declared.Integrator.{Integrator}
use Rattle.satellite.specs.declared.Method.{Method}
use Rattle.satellite.specs.declared.Method.TheVariants as methods
use Rattle.satellite.specs.declared.Model.{Model}
use Rattle.std.specs.Prelude.{Result, ℕ}
use Rattle.state.specs.declared.answer.State.{State}
use Rattle.state.specs.declared.answer.Refusal.{Refusal}
use Rattle.state.specs.Sgp4.{sgp4}
use Rattle.resonance.specs.declared.place.Place.{Place}
use Rattle.sgp4.specs.DeepSpace.{deep_space}

unfoldable pub state_by : NearEarth → Method → Place → Minutes → Result (State × ℕ) Refusal
state_by s methods.NearEarth p t = sgp4 s t
state_by s (methods.DeepSpace d) p t = deep_space s d p t

-- the state at t; `p` is the position of the whole strides that t needs
unfoldable pub state_at : Model → Place → Minutes → Result (State × ℕ) Refusal
state_at k p t = state_by k.near k.method p t

-- no resonance, and the zeros that sgp4init begins with
unfoldable pub no_integrator : Integrator
no_integrator =
    record { resonance = kinds.None; xlamo = dec 0 0; xfact = dec 0 0; no = dec 0 0; argpo = dec 0 0; argpdot = dec 0 0; gsto = dec 0 0 }

unfoldable pub integrator_by : Method → Integrator
integrator_by methods.NearEarth = no_integrator
integrator_by (methods.DeepSpace d) = d.integrator

-- what the strides of any satellite are counted and taken by
unfoldable pub integrator_of : Model → Integrator
integrator_of k = integrator_by k.method
