-- Two times at once, which serves speed alone. Definitions only.
use Rattle.std.specs.Prelude.{cond, ℤ}
use Rattle.elementary.specs.Two.{Two}
use Rattle.satellite.specs.declared.Model.{Model}
use Rattle.resonance.specs.declared.place.Place.{Place}
use Rattle.resonance.specs.declared.held.Held.{Held}
use Rattle.resonance.specs.Time.{side_of, stride_need}
use Rattle.resonance.specs.Held.{held_at, stays}
use Rattle.sgp4.specs.Sgp4.{integrator_of}
use Rattle.requests.specs.declared.Asked.{Asked}
use Rattle.requests.specs.declared.Carried.{Carried}
use Rattle.requests.specs.Request.{reached, asked}

-- two times, the second at the position that the first leaves
abbrev pub asked_two : Model → Place → ℤ → ℤ → Two Asked
asked_two k p t t2 = let a = asked k p t in record { first = a; second = asked k a.place t2 }

-- the position that a time needs with the derivatives there, and the strides to it
unfoldable pub went_on : Model → Place → ℤ → Carried
went_on k p t = let a = reached k p t in record { held = held_at (integrator_of k) a.place; strides = a.strides }

-- the same; a time that takes no stride has both
unfoldable pub carried : Model → Held → ℤ → Carried
carried k h t = cond (stays h (side_of t) (stride_need (integrator_of k) t)) (record { held = h; strides = record { 0 = 0 } }) (went_on k h.place t)
