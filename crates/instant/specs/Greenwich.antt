-- Days and the Greenwich angle, document 01, "Numbers the model rests on", and 002's gstime (lines 3638-3657). Definitions only.
use Rattle.std.specs.Prelude.{ℕ, false, cond, List, [], ◌∷◌, Float, None, Option, Some}
use Rattle.std.specs.Float.{binary64}
use Rattle.std.specs.Float.Ieee.{round, neg, lt}
use Rattle.elementary.specs.Notation.{◌⊕◌, ◌⊖◌, ◌⊗◌, ◌⊘◌, dec, two_pi}
use Rattle.elementary.specs.Trig.{turned}
use Rattle.instant.specs.Quantity.{deg2rad}
use Rattle.instant.specs.Calendar.{in_calendar}
use Rattle.instant.specs.declared.Days.{Days}
use Rattle.instant.specs.declared.Radians.{Radians}

-- "the epoch's microseconds since 1957 January 1 divided by 86,400,000,000, plus 2,558"
unfoldable pub epoch_days_of : ℕ → Float
epoch_days_of t = round binary64 false t 86400000000 ⊕ dec 2558 0

-- "the Julian date is that plus 2,433,281.5"
unfoldable pub julian_of : ℕ → Float
julian_of t = epoch_days_of t ⊕ dec 24332815 1

-- seconds of sidereal time in a century
unfoldable pub rate : Float
rate = dec 876600 0 ⊗ dec 3600 0 ⊕ dec 8640184812866 6

-- seconds of sidereal time, by falling powers of the centuries tut1
unfoldable pub sidereal_of : Float → Float
sidereal_of tut1 =
    neg (dec 62 7) ⊗ tut1 ⊗ tut1 ⊗ tut1 ⊕ dec 93104 6 ⊗ tut1 ⊗ tut1 ⊕ rate ⊗ tut1 ⊕ dec 6731054841 5

-- "check quadrants"
unfoldable pub quadrant : Float → Float
quadrant x = cond (lt x (dec 0 0)) (x ⊕ two_pi) x

unfoldable pub gstime_of : Float → Float
gstime_of jdut1 = quadrant (turned (sidereal_of ((jdut1 ⊖ dec 2451545 0) ⊘ dec 36525 0) ⊗ deg2rad ⊘ dec 240 0))

unfoldable pub greenwich_of : ℕ → Float
greenwich_of t = gstime_of (julian_of t)

-- ---- the answers: refusal 6 where "an instant given .. is outside 1957-2056"

unfoldable pub epoch_days_at : ℕ → Option Days
epoch_days_at t = cond (in_calendar t) (Some (record { 0 = epoch_days_of t })) None

unfoldable pub julian_at : ℕ → Option Days
julian_at t = cond (in_calendar t) (Some (record { 0 = julian_of t })) None

unfoldable pub greenwich_at : ℕ → Option Radians
greenwich_at t = cond (in_calendar t) (Some (record { 0 = greenwich_of t })) None

-- document 01's refusal number of each answer, 0 where there are days or an angle, and what comes back: with a refusal nothing
unfoldable pub days_refusal : Option Days → ℕ
days_refusal (Some d) = 0
days_refusal None = 6

unfoldable pub days_values : Option Days → List Float
days_values (Some d) = d.0 ∷ []
days_values None = []

unfoldable pub angle_refusal : Option Radians → ℕ
angle_refusal (Some a) = 0
angle_refusal None = 6

unfoldable pub angle_values : Option Radians → List Float
angle_values (Some a) = a.0 ∷ []
angle_values None = []
