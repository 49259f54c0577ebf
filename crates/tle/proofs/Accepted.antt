-- The record of every pair of lines that reading accepts is legal; the epoch of a legal record is inside 1957-2056, and its date is the
-- record's.
use Prim.Native.Nat.{ℕ, zero, suc, ◌+◌, ◌*◌, ◌<◌, ◌^◌}
use mathlib.Core.Path.{◌≡◌, refl, ap}
use mathlib.Core.List.{List}
use mathlib.Core.Bool.{Bool, true, false, ◌&&◌}
use native.Mathlib.Omega.{arith}
use borrow.Author.Tests.{lt-ltb, le-leb, leb-true, leb-false}
use lib.Dec.{eqb, leb, ltb}
use lib.IntN.{nat_abs}
use Rattle.instant.specs.Calendar.{day_in_range, year_in_range, epoch_of}
use Rattle.instant.proofs.Theorems.{epochs_apart}
use Rattle.columns.specs.Layout.{layout1}
use Rattle.tle.specs.Number.{field, minus, signed}
use Rattle.tle.specs.Legal.{inclination_in_range, angle_in_range, motion_in_range, in_ranges, designator_fits, scaled_fits, in_layout, in_places, in_form, legal}
use Rattle.tle.specs.Read.{unless, pair_of, number_at, year_of, minus_at, ndot_at, scaled_at, day_at, degrees_at, motion_at, fields_of, formed, form_of, ranges_of, ranged, read_of}
use Rattle.tle.specs.Claims.{AcceptedAreLegal, EpochsInside, EpochsDated}
use Rattle.tle.specs.declared.Record.{Record}
use Rattle.tle.specs.declared.Line.TheVariants.{One}
use Rattle.tle.specs.declared.Field.TheVariants.{Day, Inclination, Node, Perigee, Anomaly, Motion}
use Rattle.tle.specs.declared.Refusal.{Refusal}
use Rattle.tle.specs.declared.Refusal.TheVariants.{Range}
use Rattle.std.specs.Prelude.{Err, Ok, Result}
use Rattle.tle.proofs.Steps.{field_below}
use Rattle.tle.proofs.Catalogue.{number_below}
use Rattle.tle.proofs.Judged.{lawful, pair}
use Rattle.tle.proofs.Designators.{designator_fits_lem}

infixl 35 ◌and◌
◌and◌ : {a b : Bool} → a ≡ true → b ≡ true → (a && b) ≡ true
p and q = rw (p, q)

-- a number's distance from 0 is that of its digits
abs_signed : (b : Bool) (n : ℕ) → nat_abs (signed b n) ≡ n
unfolding signed minus
abs_signed true zero = refl
abs_signed true (suc n) = refl
abs_signed false n = refl

year_from : (yy : ℕ) (t : Bool) → leb 57 yy ≡ t → yy < 100 → (leb 1957 (year_of yy) ≡ true) × (leb (year_of yy) 2056 ≡ true)
unfolding year_of
year_from yy true e h = rw e (le-leb 1957 (1900 + yy) (omega (arith, leb-true 57 yy e)), le-leb (1900 + yy) 2056 (omega arith))
year_from yy false e h = rw e (le-leb 1957 (2000 + yy) (omega arith), le-leb (2000 + yy) 2056 (omega (arith, leb-false 57 yy e)))

scaled_by : (at : ℕ) (line : List ℕ) (t : Bool) → eqb (field (at + 1) 5 line) 0 ≡ t → scaled_fits (scaled_at at line) ≡ true
unfolding scaled_fits scaled_at
scaled_by at line true e =
    rw (abs_signed (minus_at at line) (field (at + 1) 5 line), e, lt-ltb (field (at + 1) 5 line) 100000 (field_below (at + 1) 5 line))
scaled_by at line false e =
    rw (
      abs_signed (minus_at at line) (field (at + 1) 5 line),
      e,
      abs_signed (minus_at (at + 6) line) (field (at + 7) 1 line),
      lt-ltb (field (at + 1) 5 line) 100000 (field_below (at + 1) 5 line),
      lt-ltb (field (at + 7) 1 line) 10 (field_below (at + 7) 1 line),
    )

scaled : (at : ℕ) (line : List ℕ) → scaled_fits (scaled_at at line) ≡ true
scaled at line = scaled_by at line (eqb (field (at + 1) 5 line) 0) refl

below : (at w : ℕ) (line : List ℕ) (n : ℕ) → n ≡ 10 ^ w → ltb (field at w line) n ≡ true
below at w line n e = lt-ltb (field at w line) n (omega (arith, field_below at w line))

-- the fields of lawful lines are inside the layout
in_layout_lem : (line1 line2 : List ℕ) → pair_of line1 line2 ≡ Ok tt → in_layout (fields_of line1 line2) ≡ true
unfolding in_layout fields_of ndot_at motion_at
in_layout_lem line1 line2 e =
    let first = lawful One layout1 line1 (pair line1 line2 e).0 in
    let year = year_from (field 18 2 line1) (leb 57 (field 18 2 line1)) refl (field_below 18 2 line1) in
    let motion : field 52 2 line2 * 100000000 + field 55 8 line2 < 10000000000 = omega (arith, field_below 52 2 line2, field_below 55 8 line2) in
    lt-ltb (number_at line1) 340000 (number_below line1) and designator_fits_lem line1 first.1 and year.0 and year.1
    and rw (abs_signed (minus_at 33 line1) (field 35 8 line1)) (below 35 8 line1 100000000 refl)
    and scaled 44 line1 and scaled 53 line1
    and below 62 1 line1 10 refl and below 64 4 line1 10000 refl and below 26 7 line2 10000000 refl
    and lt-ltb (field 52 2 line2 * 100000000 + field 55 8 line2) 10000000000 motion and below 63 5 line2 100000 refl

-- ddd.dddd
degrees : (at : ℕ) (line : List ℕ) → ltb (degrees_at at line) 10000000 ≡ true
unfolding degrees_at
degrees at line =
    let h : field at 3 line * 10000 + field (at + 4) 4 line < 10000000 = omega (arith, field_below at 3 line, field_below (at + 4) 4 line) in
    lt-ltb (field at 3 line * 10000 + field (at + 4) 4 line) 10000000 h

in_places_lem : (line1 line2 : List ℕ) → in_places (fields_of line1 line2) ≡ true
unfolding in_places fields_of day_at
in_places_lem line1 line2 =
    let h : field 20 3 line1 * 100000000 + field 24 8 line1 < 100000000000 = omega (arith, field_below 20 3 line1, field_below 24 8 line1) in
    lt-ltb (field 20 3 line1 * 100000000 + field 24 8 line1) 100000000000 h
    and degrees 8 line2 and degrees 17 line2 and degrees 34 line2 and degrees 43 line2

pub in_form_lem : (line1 line2 : List ℕ) → pair_of line1 line2 ≡ Ok tt → in_form (fields_of line1 line2) ≡ true
unfolding in_form
in_form_lem line1 line2 e = in_layout_lem line1 line2 e and in_places_lem line1 line2

-- a record that passes its ranges
abbrev record_or : Record → Result Record Refusal → Record
record_or d (Ok r) = r
record_or d (Err why) = d

pub within : (test : Bool) (why : Refusal) (next : Result Record Refusal) (r : Record) → unless test (Err why) next ≡ Ok r → (test ≡ true) × (next ≡ Ok r)
within true why next r e = (refl, e)
within false why next r e = let z : ◌≡◌ {A = ℕ} 0 1 = cc in absurd (omega arith)

pub in_ranges_lem : (s r : Record) → ranges_of s ≡ Ok r → (in_ranges s ≡ true) × (s ≡ r)
unfolding ranges_of in_ranges
in_ranges_lem s r e =
    let motion = unless (motion_in_range s.motion) (Err (Range Motion)) (Ok s) in
    let anomaly = unless (angle_in_range s.anomaly) (Err (Range Anomaly)) motion in
    let perigee = unless (angle_in_range s.perigee) (Err (Range Perigee)) anomaly in
    let node = unless (angle_in_range s.node) (Err (Range Node)) perigee in
    let inclination = unless (inclination_in_range s.inclination) (Err (Range Inclination)) node in
    let d = within (day_in_range s.year s.day) (Range Day) inclination r e in
    let i = within (inclination_in_range s.inclination) (Range Inclination) node r d.1 in
    let n = within (angle_in_range s.node) (Range Node) perigee r i.1 in
    let p = within (angle_in_range s.perigee) (Range Perigee) anomaly r n.1 in
    let a = within (angle_in_range s.anomaly) (Range Anomaly) motion r p.1 in
    let m = within (motion_in_range s.motion) (Range Motion) (Ok s) r a.1 in
    (d.0 and i.0 and n.0 and p.0 and a.0 and m.0, ap (record_or s) m.1)

from_form : (v : Result (Unit {0}) Refusal) (s r : Record) → ranged (formed v s) ≡ Ok r → (v ≡ Ok tt) × (ranges_of s ≡ Ok r)
from_form (Ok tt) s r e = (refl, e)
from_form (Err why) s r e = let z : ◌≡◌ {A = ℕ} 0 1 = cc in absurd (omega arith)

pub accepted_are_legal : AcceptedAreLegal
unfolding read_of form_of legal
accepted_are_legal line1 line2 r e =
    let f = from_form (pair_of line1 line2) (fields_of line1 line2) r e in
    let g = in_ranges_lem (fields_of line1 line2) r f.1 in
    rw (← g.1) (in_layout_lem line1 line2 f.0 and g.0)

years : (a b c d e f g h i j k l : Bool) → (a && b && c && d && e && f && g && h && i && j && k && l) ≡ true → (c && d) ≡ true
years true true true true e f g h i j k l q = refl
years true true true false e f g h i j k l q = q
years true true false d e f g h i j k l q = q
years true false c d e f g h i j k l q = let z : ◌≡◌ {A = ℕ} 0 1 = cc in absurd (omega arith)
years false b c d e f g h i j k l q = let z : ◌≡◌ {A = ℕ} 0 1 = cc in absurd (omega arith)

first_of : (a b c d e f : Bool) → (a && b && c && d && e && f) ≡ true → a ≡ true
first_of true b c d e f q = refl
first_of false b c d e f q = q

halves : (a b : Bool) → (a && b) ≡ true → (a ≡ true) × (b ≡ true)
halves true b q = (refl, q)
halves false b q = let z : ◌≡◌ {A = ℕ} 0 1 = cc in absurd (omega arith)

year_in_lem : (r : Record) → in_layout r ≡ true → year_in_range r.year ≡ true
unfolding in_layout year_in_range
year_in_lem r q =
    years (ltb r.number 340000) (designator_fits r.designator) (leb 1957 r.year) (leb r.year 2056)
    (ltb (nat_abs r.ndot) 100000000) (scaled_fits r.nddot) (scaled_fits r.bstar) (ltb r.ephemeris 10) (ltb r.element 10000)
    (ltb r.eccentricity 10000000) (ltb r.motion 10000000000) (ltb r.revolution 100000) q

day_in_lem : (r : Record) → in_ranges r ≡ true → day_in_range r.year r.day ≡ true
unfolding in_ranges
day_in_lem r q =
    first_of (day_in_range r.year r.day) (inclination_in_range r.inclination) (angle_in_range r.node) (angle_in_range r.perigee)
    (angle_in_range r.anomaly) (motion_in_range r.motion) q

pub epochs_inside : EpochsInside
unfolding legal epoch_of
epochs_inside r q = let h = halves (in_layout r) (in_ranges r) q in rw (year_in_lem r h.0, day_in_lem r h.1)

pub epochs_dated : EpochsDated
unfolding legal
epochs_dated r q =
    let h = halves (in_layout r) (in_ranges r) q in
    epochs_apart r.year r.day (year_in_lem r h.0) (day_in_lem r h.1)
