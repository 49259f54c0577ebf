-- A position of the model's frame at an instant, as a station sees it: the sine of its elevation, and azimuth, elevation and range. Definitions only.
use Rattle.std.specs.Prelude.{ℕ, cond, List, [], ◌∷◌, Float}
use Rattle.std.specs.Float.Ieee.{neg, lt}
use Rattle.elementary.specs.Notation.{◌⊕◌, ◌⊗◌, ◌⊘◌, dec, pi}
use Rattle.elementary.specs.Root.{sqrt_of}
use Rattle.elementary.specs.Angle.{atan2_of}
use Rattle.instant.specs.Calendar.{in_calendar}
use Rattle.instant.specs.Greenwich.{greenwich_of}
use Rattle.earth_fixed.specs.Frame.{at, rotation_of, turned_of, less}
use Rattle.geodetic.specs.declared.Site.{Site}
use Rattle.horizon.specs.declared.Look as ls

-- ── east, north and up ──

-- an Earth-fixed position less the station's: its products with east, north and up
unfoldable pub local : Site → List Float → List Float
local s p = turned_of (s.east ∷ s.north ∷ s.up ∷ []) (less p s.position)

-- a position of the model's frame, turned through the Greenwich angle first
unfoldable pub local_through : Site → Float → List Float → List Float
local_through s angle p = local s (turned_of (rotation_of angle) p)

-- the horizontal distance, and the whole, in km
abbrev pub flat : List Float → Float
flat v = sqrt_of (at v 0 ⊗ at v 0 ⊕ at v 1 ⊗ at v 1)

abbrev pub range : List Float → Float
range v = sqrt_of (at v 0 ⊗ at v 0 ⊕ at v 1 ⊗ at v 1 ⊕ at v 2 ⊗ at v 2)

-- ── the sine of the elevation ──

-- up over the distance
unfoldable pub sine_in : List Float → Float
sine_in v = at v 2 ⊘ range v

-- straight down
abbrev pub nadir : Float
nadir = neg (dec 1 0)

-- outside the calendar there is no Greenwich angle, and nothing stands higher than straight down
unfoldable pub sine_of : Site → ℕ → List Float → Float
sine_of s t p = cond (in_calendar t) (sine_in (local_through s (greenwich_of t) p)) nadir

-- ── azimuth, elevation and range ──

-- 180 / pi
abbrev pub degrees_of : Float → Float
degrees_of x = x ⊗ (dec 180 0 ⊘ pi)

-- from 0 to 360 degrees: a full turn is added to a negative one
unfoldable pub about_turn : Float → Float
about_turn x = cond (lt x (dec 0 0)) (x ⊕ dec 360 0) x

-- the azimuth is counted from north by east
unfoldable pub look_in : List Float → ls.Look
look_in v =
    record {
      azimuth = record { 0 = about_turn (degrees_of (atan2_of (at v 0) (at v 1))) };
      elevation = record { 0 = degrees_of (atan2_of (at v 2) (flat v)) };
      range = range v;
    }

-- straight down
abbrev pub down : ls.Look
down = record { azimuth = record { 0 = dec 0 0 }; elevation = record { 0 = neg (dec 90 0) }; range = dec 0 0 }

unfoldable pub look_of : Site → ℕ → List Float → ls.Look
look_of s t p = cond (in_calendar t) (look_in (local_through s (greenwich_of t) p)) down
