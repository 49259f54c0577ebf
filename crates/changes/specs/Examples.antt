-- Worked examples, proved by computation.
use Rattle.std.specs.Prelude.{ℕ, ◌≡◌, refl, [], ◌∷◌, pos, negsuc}
use Rattle.instant.specs.Calendar.{days_in, days_before, epoch_micros}
use Rattle.tle.specs.Read.{letter}
use Rattle.tle.specs.Examples.{vanguard}
use Rattle.tle.specs.declared.Record.{Record}
use Rattle.roster.specs.Records.{instant_of}
use Rattle.changes.specs.Entry.{Node, Epochs, Counts, sameℤ, same_class, same_designator, same_scaled, differences}
use Rattle.changes.specs.Changes.{First, Second, fields, seconds, against, listed}

-- the example of document 01 with another number, year, day and node
abbrev at : ℕ → ℕ → ℕ → ℕ → Record
at n year day node = record {
  number = n;
  class = vanguard.class;
  designator = vanguard.designator;
  year = year;
  day = day;
  ndot = vanguard.ndot;
  nddot = vanguard.nddot;
  bstar = vanguard.bstar;
  ephemeris = vanguard.ephemeris;
  element = vanguard.element;
  inclination = vanguard.inclination;
  node = node;
  eccentricity = vanguard.eccentricity;
  perigee = vanguard.perigee;
  anomaly = vanguard.anomaly;
  motion = vanguard.motion;
  revolution = vanguard.revolution;
}

abbrev then : ℕ → ℕ → Record
then n node = at n 2000 20000000000 node

-- by rising number, whichever roster a pair is in
in_order : listed (then 5 0 ∷ then 9 0 ∷ []) (then 7 0 ∷ then 9 0 ∷ []) ≡ First (then 5 0) ∷ Second (then 7 0) ∷ []
unfolding listed against seconds fields differences sameℤ same_class same_designator same_scaled letter instant_of epoch_micros days_before days_in
in_order = refl

-- "Angles are not wrapped": from 359.9999 to 0 degrees
not_wrapped : differences (then 5 3599999) (then 5 0) ≡ Counts Node (negsuc 3599998) ∷ []
unfolding differences sameℤ same_class same_designator same_scaled letter instant_of epoch_micros days_before days_in
not_wrapped = refl

-- "Epochs differ in microseconds": the last unit of 1999 and the first of 2000
new_year : differences (at 5 1999 36599999999 0) (at 5 2000 100000000 0) ≡ Epochs (pos 864) ∷ []
unfolding differences sameℤ same_class same_designator same_scaled letter instant_of epoch_micros days_before days_in
new_year = refl
