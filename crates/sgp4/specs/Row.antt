-- "A row is a refusal number (0 when answered), position and velocity in km and km/s, and the Kepler rounds": document 01, "Refusal numbers". Definitions only.
use Rattle.std.specs.Prelude.{ℕ, ℤ, Err, Ok, Result}
use Rattle.elementary.specs.Notation.{dec}
use Rattle.instant.specs.Quantity.{minutes_of}
use Rattle.satellite.specs.declared.Model.{Model}
use Rattle.state.specs.declared.answer.State.{State}
use Rattle.state.specs.declared.answer.Refusal.{Refusal}
use Rattle.state.specs.Answer.{number}
use Rattle.resonance.specs.declared.place.Place.{Place}
use Rattle.sgp4.specs.declared.Row.{Row}
use Rattle.sgp4.specs.Sgp4.{state_at}

-- "A refused row has six positive zeros and no rounds"
unfoldable pub refused_row : ℕ → Row
refused_row n = record { refusal = n; x = dec 0 0; y = dec 0 0; z = dec 0 0; vx = dec 0 0; vy = dec 0 0; vz = dec 0 0; rounds = 0 }

unfoldable pub row_of : Result (State × ℕ) Refusal → Row
row_of (Ok (s, k)) = record { refusal = 0; x = s.rx; y = s.ry; z = s.rz; vx = s.vx; vy = s.vy; vz = s.vz; rounds = k }
row_of (Err why) = refused_row (number why)

-- the row of a time in range, in microseconds, by 002's own expressions; `p` is the position of the whole strides that it needs
unfoldable pub row_at : Model → Place → ℤ → Row
row_at k p t = row_of (state_at k p (record { 0 = minutes_of t }))
