-- Document 02, wish 10: the Earth-fixed frame, and what is visible above a station. Definitions only.
use Rattle.std.specs.Prelude.{ℕ, Bool, false, cond, List, [], ◌∷◌, get_or, Float}
use Rattle.std.specs.Float.{nan}
use Rattle.std.specs.Float.Ieee.{neg, lt}
use Rattle.elementary.specs.Notation.{◌⊕◌, ◌⊖◌, ◌⊗◌, dec}
use Rattle.elementary.specs.Trig.{sin_of, cos_of}
use Rattle.instant.specs.Calendar.{in_calendar}
use Rattle.instant.specs.Greenwich.{greenwich_of}

-- element i of a vector, and row i of a matrix
abbrev pub at : List Float → ℕ → Float
at v i = get_or v i nan

abbrev pub row : List (List Float) → ℕ → List Float
row m i = get_or m i []

-- products summed left to right, none left out
abbrev pub dot : List Float → List Float → Float
dot u v = at u 0 ⊗ at v 0 ⊕ at u 1 ⊗ at v 1 ⊕ at u 2 ⊗ at v 2

-- "a three by three rotation through the sidereal angle"
unfoldable pub rotation_of : Float → List (List Float)
rotation_of a =
    (cos_of a ∷ sin_of a ∷ dec 0 0 ∷ [])
    ∷ (neg (sin_of a) ∷ cos_of a ∷ dec 0 0 ∷ [])
    ∷ (dec 0 0 ∷ dec 0 0 ∷ dec 1 0 ∷ [])
    ∷ []

-- each row's products with the position
abbrev pub turned_of : List (List Float) → List Float → List Float
turned_of m v = dot (row m 0) v ∷ dot (row m 1) v ∷ dot (row m 2) v ∷ []

abbrev pub less : List Float → List Float → List Float
less u v = (at u 0 ⊖ at v 0) ∷ (at u 1 ⊖ at v 1) ∷ (at u 2 ⊖ at v 2) ∷ []

-- "the dot product of satellite minus station with the station's position is above 0"
unfoldable pub visible_of : List Float → List Float → Bool
visible_of position station = lt (dec 0 0) (dot (less position station) station)

-- a position of the model's frame, turned through an angle
unfoldable pub seen_through : List Float → Float → List Float → Bool
seen_through station angle position = visible_of (turned_of (rotation_of angle) position) station

-- "01's Greenwich angle, at the sample's instant": outside the calendar there is none
unfoldable pub seen_of : List Float → ℕ → List Float → Bool
seen_of station t position = cond (in_calendar t) (seen_through station (greenwich_of t) position) false
