-- Document 01, "The two lines": the records inside the layout and the ranges. Writing and opening refuse every other with 16.
use Rattle.std.specs.Prelude.{ℕ, Bool, true, not, ◌&&◌, ◌||◌, eqb, leb, ltb, nat_abs}
use Rattle.instant.specs.Calendar.{day_in_range}
use Rattle.columns.specs.Layout.{is_blank, is_letter}
use Rattle.tle.specs.declared.Designator.{Designator}
use Rattle.tle.specs.declared.Designator.TheVariants.{Blank, Piece}
use Rattle.tle.specs.declared.Scaled.{Scaled}
use Rattle.tle.specs.declared.Record.{Record}

-- "Ranges": the day as crate `instant` says; inclination at most 180.0000
abbrev pub inclination_in_range : ℕ → Bool
inclination_in_range n = leb n 1800000

-- other angles below 360.0000
abbrev pub angle_in_range : ℕ → Bool
angle_in_range n = ltb n 3600000

-- mean motion above 0
abbrev pub motion_in_range : ℕ → Bool
motion_in_range n = ltb 0 n

unfoldable pub in_ranges : Record → Bool
in_ranges r =
    day_in_range r.year r.day && inclination_in_range r.inclination && angle_in_range r.node
    && angle_in_range r.perigee && angle_in_range r.anomaly && motion_in_range r.motion

-- five digits, a letter A-Z, then two places of letters or blanks, letters first
abbrev pub piece_fits : ℕ → ℕ → ℕ → ℕ → Bool
piece_fits launch a b c =
    ltb launch 100000 && is_letter a && (is_letter b || is_blank b) && (is_letter c && is_letter b || is_blank c)

-- a piece's, or eight blanks
unfoldable pub designator_fits : Designator → Bool
designator_fits Blank = true
designator_fits (Piece launch a b c) = piece_fits launch a b c

-- five digits and an exponent from -9 to 9; a zero mantissa with exponent 0 and no other
unfoldable pub scaled_fits : Scaled → Bool
scaled_fits s =
    ltb (nat_abs s.mantissa) 100000 && ltb (nat_abs s.exponent) 10
    && (not (eqb (nat_abs s.mantissa) 0) || eqb (nat_abs s.exponent) 0)

-- what the columns can hold of the fields that no range bounds: a catalogue number up to Z9999, which is 339999; years 57-99 are
-- 1957-1999 and 00-56 are 2000-2056
unfoldable pub in_layout : Record → Bool
in_layout r =
    ltb r.number 340000 && designator_fits r.designator && leb 1957 r.year && leb r.year 2056
    && ltb (nat_abs r.ndot) 100000000 && scaled_fits r.nddot && scaled_fits r.bstar
    && ltb r.ephemeris 10 && ltb r.element 10000 && ltb r.eccentricity 10000000
    && ltb r.motion 10000000000 && ltb r.revolution 100000

-- what the columns can hold of the others: three places before the point of a day and of an angle
unfoldable pub in_places : Record → Bool
in_places r =
    ltb r.day 100000000000 && ltb r.inclination 10000000 && ltb r.node 10000000 && ltb r.perigee 10000000
    && ltb r.anomaly 10000000

-- document 02, wish 9: an accepted form yields these fields (`FormsExactly` of specs/Claims of crate `tle_writer`)
unfoldable pub in_form : Record → Bool
in_form r = in_layout r && in_places r

unfoldable pub legal : Record → Bool
legal r = in_layout r && in_ranges r
