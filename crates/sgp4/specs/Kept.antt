-- The row of a time with the numbers that set-up keeps in place of 002's expressions (state's specs/Kept), which serves speed alone: what the code
-- does with any satellite handed in. specs/Claims: where these numbers are as 002 computes them, it is 002's own row. Definitions only.
use Rattle.std.specs.Prelude.{ℤ, Result, ℕ}
use Rattle.instant.specs.Quantity.{minutes_of}
use Rattle.instant.specs.declared.Minutes.{Minutes}
use Rattle.satellite.specs.declared.NearEarth.{NearEarth}
use Rattle.satellite.specs.declared.Method.{Method}
use Rattle.satellite.specs.declared.Method.TheVariants as methods
use Rattle.satellite.specs.declared.Model.{Model}
use Rattle.state.specs.declared.answer.State.{State}
use Rattle.state.specs.declared.answer.Refusal.{Refusal}
use Rattle.state.specs.Kept.{sgp4_from}
use Rattle.resonance.specs.declared.place.Place.{Place}
use Rattle.sgp4.specs.declared.Row.{Row}
use Rattle.sgp4.specs.DeepSpace.{deep_space}
use Rattle.sgp4.specs.Row.{row_of}

-- deep space makes use of none of them
unfoldable pub state_by_from : NearEarth → Method → Place → Minutes → Result (State × ℕ) Refusal
state_by_from s methods.NearEarth p t = sgp4_from s t
state_by_from s (methods.DeepSpace d) p t = deep_space s d p t

unfoldable pub state_from : Model → Place → Minutes → Result (State × ℕ) Refusal
state_from k p t = state_by_from k.near k.method p t

unfoldable pub row_from : Model → Place → ℤ → Row
row_from k p t = row_of (state_from k p (record { 0 = minutes_of t }))
