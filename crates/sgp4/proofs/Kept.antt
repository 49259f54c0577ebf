-- Where the numbers that set-up keeps are as 002 computes them, every row is 002's own.
use mathlib.Core.Path.{◌≡◌, refl, ap}
use Rattle.instant.specs.Quantity.{minutes_of}
use Rattle.instant.specs.declared.Minutes.{Minutes}
use Rattle.satellite.specs.declared.NearEarth.{NearEarth}
use Rattle.satellite.specs.declared.Method.{Method}
use Rattle.satellite.specs.declared.Method.TheVariants as methods
use Rattle.near_earth.specs.Kept.{AsComputed}
use Rattle.state.proofs.Kept.{sgp4_as_computed}
use Rattle.resonance.specs.declared.place.Place.{Place}
use Rattle.sgp4.specs.Sgp4.{state_by, state_at}
use Rattle.sgp4.specs.Row.{row_of, row_at}
use Rattle.sgp4.specs.Kept.{state_by_from, state_from, row_from}
use Rattle.sgp4.specs.Claims.{RowsAsComputed}

state_as_computed : (s : NearEarth) → AsComputed s → (m : Method) (p : Place) (t : Minutes) → state_by_from s m p t ≡ state_by s m p t
unfolding state_by_from state_by
state_as_computed s h methods.NearEarth p t = sgp4_as_computed s h t
state_as_computed s h (methods.DeepSpace d) p t = refl

pub rows_as_computed : RowsAsComputed
unfolding row_from row_at state_from state_at
rows_as_computed k h p t = ap row_of (state_as_computed k.near h k.method p (record { 0 = minutes_of t }))
