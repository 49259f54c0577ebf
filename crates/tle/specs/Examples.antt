-- 002's example: its two lines, and the record that reading them gives; catalogue numbers with letters; last days of years; fields that
-- are well formed and out of range. Document 01's cases at the edges, and pairs with such days, are in crate edge_cases.
use Rattle.std.specs.Prelude.{ℕ, ◌≡◌, refl, List, [], ◌∷◌, map, true, false, pos, negsuc, Err, Ok}
use Rattle.instant.specs.Calendar.{days_in, last_day, day_in_range}
use Rattle.text.specs.Output.{bytes}
use Rattle.columns.specs.Layout.{agreed}
use Rattle.columns.specs.Sum.{digit_of, sum}
use Rattle.tle.specs.Number.{value_on, signed, minus}
use Rattle.columns.specs.FirstPlace.{position, first_of}
use Rattle.tle.specs.Catalogue.{catalogue_of}
use Rattle.tle.specs.Legal.{in_ranges, designator_fits, scaled_fits, in_layout, in_places, in_form, legal}
use Rattle.tle.specs.Read.{verdict_of, number_at, pair_of, class_of, designator_at, year_of, ndot_at, scaled_at, day_at, motion_at, degrees_at, fields_of, form_of, ranges_of, given, meaning_of, read_of}
use Rattle.tle.specs.declared.Class.TheVariants.{Unclassified}
use Rattle.tle.specs.declared.Designator.TheVariants.{Piece}
use Rattle.tle.specs.declared.Record.{Record}
use Rattle.tle.specs.declared.Field.TheVariants.{Day}
use Rattle.tle.specs.declared.Refusal.TheVariants.{Range, NoForm}

abbrev pub line1 : List ℕ
line1 = bytes "1 00005U 58002B   00179.78495062  .00000023  00000-0  28098-4 0  4753"

abbrev pub line2 : List ℕ
line2 = bytes "2 00005  34.2682 348.7242 1859667 331.7664  19.3264 10.82419157413667"

-- its record, with another catalogue number and another epoch
abbrev pub varied : ℕ → ℕ → ℕ → Record
varied number year day = record {
  number = number;
  class = Unclassified;
  designator = Piece 58002 66 32 32;
  year = year;
  day = day;
  ndot = pos 23;
  nddot = record { mantissa = pos 0; exponent = pos 0 };
  bstar = record { mantissa = pos 28098; exponent = negsuc 3 };
  ephemeris = 0;
  element = 475;
  inclination = 342682;
  node = 3487242;
  eccentricity = 1859667;
  perigee = 3317664;
  anomaly = 193264;
  motion = 1082419157;
  revolution = 41366;
}

abbrev pub numbered : ℕ → Record
numbered number = varied number 2000 17978495062

abbrev pub stamped : ℕ → ℕ → Record
stamped year day = varied 5 year day

abbrev pub vanguard : Record
vanguard = numbered 5

pub example : read_of line1 line2 ≡ Ok vanguard
unfolding read_of form_of pair_of verdict_of agreed sum fields_of ranges_of day_in_range last_day days_in number_at catalogue_of first_of position class_of designator_at year_of day_at ndot_at scaled_at degrees_at motion_at value_on digit_of signed minus
example = refl

-- document 02, wish 1: the numbers at the ends of each row of letters
pub letters : map catalogue_of
    (bytes "99999" ∷ bytes "A0000" ∷ bytes "H9999" ∷ bytes "J0000" ∷ bytes "N9999" ∷ bytes "P0000" ∷ bytes "Z9999" ∷ [])
    ≡ 99999 ∷ 100000 ∷ 179999 ∷ 180000 ∷ 229999 ∷ 230000 ∷ 339999 ∷ []
unfolding catalogue_of first_of position value_on digit_of
letters = refl

-- the largest of a record, and one too large
pub largest : legal (numbered 339999) ≡ true
unfolding legal in_layout in_ranges designator_fits scaled_fits day_in_range last_day days_in
largest = refl

pub too_large : legal (numbered 340000) ≡ false
unfolding legal in_layout in_ranges designator_fits scaled_fits day_in_range last_day days_in
too_large = refl

-- document 02, wish 3: day 366.5 of 2000 and of 2001
pub long_year : legal (stamped 2000 36650000000) ≡ true
unfolding legal in_layout in_ranges designator_fits scaled_fits day_in_range last_day days_in
long_year = refl

pub short_year : legal (stamped 2001 36650000000) ≡ false
unfolding legal in_layout in_ranges designator_fits scaled_fits day_in_range last_day days_in
short_year = refl

-- document 02, wish 9: that day is in form and refused with 6; with a catalogue number that no form yields, 16 comes before 6
pub well_formed : in_form (stamped 2001 36650000000) ≡ true
unfolding in_form in_layout in_places designator_fits scaled_fits
well_formed = refl

pub impossible : meaning_of (given (stamped 2001 36650000000)) ≡ Err (Range Day)
unfolding meaning_of in_form in_layout in_places designator_fits scaled_fits ranges_of day_in_range last_day days_in
impossible = refl

pub sixteen_first : meaning_of (given (varied 340000 2001 36650000000)) ≡ Err NoForm
unfolding meaning_of in_form in_layout in_places designator_fits scaled_fits
sixteen_first = refl
