-- A satellite at an instant, as a station sees it. Definitions only. Where it has no position, the row refused or the instant or the epoch outside the
-- calendar, it stands straight down.
use Rattle.std.specs.Prelude.{ℕ, cond, [], ◌∷◌, eqb, ℤ, Float, Err, None, Ok, Option, Result, Some}
use Rattle.instant.specs.declared.Microseconds.{Microseconds}
use Rattle.instant.specs.Since.{since_of}
use Rattle.geodetic.specs.declared.Site.{Site}
use Rattle.horizon.specs.declared.Look.{Look}
use Rattle.horizon.specs.Horizon.{nadir, sine_of, down, look_of}
use Rattle.sgp4.specs.declared.Row.{Row}
use Rattle.opening.specs.declared.opening.Satellite.{Satellite}
use Rattle.requests.specs.Request.{answered}
use Rattle.sightings.specs.declared.Seen as ss

-- ── the sine of the elevation, and the satellite as the request leaves it ──

unfoldable pub row_sine : Site → ℕ → Row → Float
row_sine site t r = cond (eqb r.refusal 0) (sine_of site t (r.x ∷ r.y ∷ r.z ∷ [])) nadir

-- a time after the epoch
unfoldable pub seen_after : Site → Satellite → ℕ → ℤ → ss.Seen
seen_after site s t d = let a = answered s d in record { sine = row_sine site t a.row; satellite = a.satellite }

unfoldable pub seen_since : Site → Satellite → ℕ → Option Microseconds → ss.Seen
seen_since site s t (Some d) = seen_after site s t d.0
seen_since site s t None = record { sine = nadir; satellite = s }

-- a single request, for the time from the epoch that the satellite keeps
unfoldable pub seen_at : Site → Satellite → ℕ → ss.Seen
seen_at site s t = seen_since site s t (since_of t s.model.epoch.0)

-- ── azimuth, elevation and range, or why there are none ──

-- a row refused gives its refusal
unfoldable pub row_sighting : Site → ℕ → Row → Result Look ℕ
row_sighting site t r = cond (eqb r.refusal 0) (Ok (look_of site t (r.x ∷ r.y ∷ r.z ∷ []))) (Err r.refusal)

unfoldable pub sighted_after : Site → Satellite → ℕ → ℤ → Result Look ℕ
sighted_after site s t d = row_sighting site t (answered s d).row

-- "6": the instant or the epoch lies outside the calendar
unfoldable pub sighted_since : Site → Satellite → ℕ → Option Microseconds → Result Look ℕ
sighted_since site s t (Some d) = sighted_after site s t d.0
sighted_since site s t None = Err 6

unfoldable pub sighted_at : Site → Satellite → ℕ → Result Look ℕ
sighted_at site s t = sighted_since site s t (since_of t s.model.epoch.0)

unfoldable pub shown : Result Look ℕ → Look
shown (Ok look) = look
shown (Err r) = down

unfoldable pub look_at : Site → Satellite → ℕ → Look
look_at site s t = shown (sighted_at site s t)
