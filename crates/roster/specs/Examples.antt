-- Worked examples, proved by computation.
use Rattle.std.specs.Prelude.{ℕ, ◌≡◌, refl, take, None}
use mathlib.Core.List.{[], ◌∷◌, ◌++◌, flat_map}
use Rattle.instant.specs.Calendar.{days_in, last_day, day_in_range, days_before, epoch_micros}
use Rattle.text.specs.Output.{bytes}
use Rattle.columns.specs.Layout.{agreed}
use Rattle.columns.specs.Sum.{digit_of, sum}
use Rattle.columns.specs.FirstPlace.{position, first_of}
use Rattle.tle.specs.Number.{value_on, signed, minus}
use Rattle.tle.specs.Catalogue.{catalogue_of}
use Rattle.tle.specs.Read.{verdict_of, number_at, pair_of, class_of, designator_at, year_of, ndot_at, scaled_at, day_at, motion_at, degrees_at, fields_of, form_of, ranges_of, read_of}
use Rattle.tle.specs.Examples.{vanguard, line2}
use Rattle.tle.specs.declared.Record.{Record}
use Rattle.roster.specs.Packed.{packed}
use Rattle.roster.specs.Records.{instant_of, lodged, withdrawn}
use Rattle.roster.specs.Roster.{place_of}
use Rattle.roster.specs.Row.{row_of}

-- the example of document 01 with another number, year and day
abbrev pub at : ℕ → ℕ → ℕ → Record
at n year day = record {
  number = n;
  class = vanguard.class;
  designator = vanguard.designator;
  year = year;
  day = day;
  ndot = vanguard.ndot;
  nddot = vanguard.nddot;
  bstar = vanguard.bstar;
  ephemeris = vanguard.ephemeris;
  element = vanguard.element;
  inclination = vanguard.inclination;
  node = vanguard.node;
  eccentricity = vanguard.eccentricity;
  perigee = vanguard.perigee;
  anomaly = vanguard.anomaly;
  motion = vanguard.motion;
  revolution = vanguard.revolution;
}

-- a number stands between its neighbours, and in the place of its own
in_order : lodged (at 7 2000 20000000000) (at 5 2000 20000000000 ∷ at 9 2000 20000000000 ∷ [])
    ≡ at 5 2000 20000000000 ∷ at 7 2000 20000000000 ∷ at 9 2000 20000000000 ∷ []
unfolding lodged
in_order = refl

replaced : lodged (at 5 2001 10000000000) (at 5 2000 20000000000 ∷ at 9 2000 20000000000 ∷ []) ≡ at 5 2001 10000000000 ∷ at 9 2000 20000000000 ∷ []
unfolding lodged
replaced = refl

closed : withdrawn 5 (at 5 2000 20000000000 ∷ at 9 2000 20000000000 ∷ []) ≡ at 9 2000 20000000000 ∷ []
unfolding withdrawn
closed = refl

-- document 02, wish 3: a place that holds day 366.5 of 2001 is no pair, whoever wrote it
short_year : place_of (bytes "1 00005U 58002B   01366.50000000  .00000023  00000-0  28098-4 0  4756" ++ line2) ≡ None
unfolding place_of read_of form_of pair_of verdict_of agreed sum fields_of ranges_of day_in_range last_day days_in number_at catalogue_of first_of position class_of designator_at year_of day_at ndot_at scaled_at degrees_at motion_at value_on digit_of signed minus
short_year = refl

-- document 02, wish 8: 1957 January 1, 0h, is the instant 0, and its pair keeps its place in front of a later one
zero_instant : take 3 (row_of (lodged (at 7 2000 20000000000) (at 5 1957 100000000 ∷ []))) ≡ 0 ∷ 1374105600000000 ∷ 0 ∷ []
unfolding lodged packed flat_map instant_of epoch_micros days_before days_in
zero_instant = refl
