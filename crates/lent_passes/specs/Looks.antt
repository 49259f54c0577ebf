-- A satellite in memory that is lent, as a station sees it at an instant: the answer, and azimuth, elevation and range. Definitions only.
use Rattle.std.specs.Prelude.{ℕ, cond, List, [], ◌∷◌, Float, Err, Ok, Result}
use Rattle.geodetic.specs.Geodetic.{on_earth, site_of}
use Rattle.horizon.specs.declared.Look.{Look}
use Rattle.sightings.specs.Sightings.{sighted_at}
use Rattle.storage.specs.Storage.{satellite_of}
use Rattle.answers.specs.Answer.{answer}
use Rattle.lent_passes.specs.Passes.{geodetic_of, short}

-- "25": no station; "17": memory that holds no satellite, or a room for fewer than three numbers; then what `sighted` refuses
unfoldable pub sighting_held : List Float → List ℕ → List Float → ℕ → ℕ → Result Look ℕ
sighting_held ns ms v t room =
    cond (on_earth (geodetic_of v))
    (cond (short 3 ns ms room) (Err 17) (sighted_at (site_of (geodetic_of v)) (satellite_of ns ms) t))
    (Err 25)

unfoldable pub look_answer : Result Look ℕ → ℕ
look_answer (Ok l) = answer 0 0 0 0
look_answer (Err r) = answer r 0 0 0

-- azimuth from north by east and elevation in degrees, range in km
unfoldable pub look_numbers : Result Look ℕ → List Float
look_numbers (Ok l) = l.azimuth.0 ∷ l.elevation.0 ∷ l.range ∷ []
look_numbers (Err r) = []
