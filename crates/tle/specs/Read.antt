-- Document 01, "The two lines" and "Refusal numbers" 1 to 6: what reading two lines gives. Document 02, wish 9: first their form, then its
-- meaning.
use Rattle.std.specs.Prelude.{ℕ, ◌+◌, ◌*◌, ◌%◌, List, Bool, true, cond, eqb, ltb, leb, ℤ, pos, length, take, drop, get_or, Err, Ok, Result}
use Prim.Native.Char.{code}
use Rattle.columns.specs.Layout.{agreed, is_blank, layout1, layout2}
use Rattle.columns.specs.Sum.{digit_of, sum}
use Rattle.tle.specs.Number.{field, signed}
use Rattle.tle.specs.Catalogue.{catalogue_of}
use Rattle.instant.specs.Calendar.{day_in_range}
use Rattle.tle.specs.Legal.{inclination_in_range, angle_in_range, motion_in_range, in_form}
use Rattle.tle.specs.declared.Class.{Class}
use Rattle.tle.specs.declared.Class.TheVariants.{Unclassified, Classified, Secret}
use Rattle.tle.specs.declared.Designator.{Designator}
use Rattle.tle.specs.declared.Designator.TheVariants.{Blank, Piece}
use Rattle.tle.specs.declared.Scaled.{Scaled}
use Rattle.tle.specs.declared.Record.{Record}
use Rattle.tle.specs.declared.Fields.{Fields}
use Rattle.tle.specs.declared.Line.{Line}
use Rattle.tle.specs.declared.Line.TheVariants.{One, Two}
use Rattle.tle.specs.declared.Field.TheVariants.{Day, Inclination, Node, Perigee, Anomaly, Motion}
use Rattle.tle.specs.declared.Refusal.{Refusal}
use Rattle.tle.specs.declared.Refusal.TheVariants.{Length, Start, Column, Checksum, Numbers, Range, NoForm}

-- the answer where a test fails, and else what comes next
abbrev pub unless : {A : Type 0} → Bool → A → A → A
unless test refused next = cond test next refused

-- the checksum of a line, over columns 1 to 68
abbrev pub checksum_of : List ℕ → ℕ
checksum_of line = sum (take 68 line) % 10

-- a line by its layout: refusals 1 to 4
unfoldable pub verdict_of : Line → List ℕ → List ℕ → Result (Unit {0}) Refusal
verdict_of which layout line =
    unless (eqb (length line) 69) (Err (Length which))
    (unless (ltb 0 (agreed layout true line)) (Err (Start which))
    (unless (eqb (agreed layout true line) 69) (Err (Column which (agreed layout true line + 1)))
    (unless (eqb (checksum_of line) (digit_of (get_or line 68 0))) (Err (Checksum which)) (Ok tt))))

-- the catalogue number of a line, in columns 3 to 7
unfoldable pub number_at : List ℕ → ℕ
number_at line = catalogue_of (take 5 (drop 2 line))

-- a second verdict, where the first is lawful
abbrev pub then : Result (Unit {0}) Refusal → Result (Unit {0}) Refusal → Result (Unit {0}) Refusal
then (Ok tt) next = next
then (Err r) next = Err r

-- line 1 goes through 1 to 4, then line 2, then 5
unfoldable pub pair_of : List ℕ → List ℕ → Result (Unit {0}) Refusal
pair_of line1 line2 =
    then (verdict_of One layout1 line1)
    (then (verdict_of Two layout2 line2)
    (unless (eqb (number_at line1) (number_at line2)) (Err Numbers) (Ok tt)))

-- U, C or S
unfoldable pub class_of : ℕ → Class
class_of b = cond (eqb b (code "U")) Unclassified (cond (eqb b (code "C")) Classified Secret)

-- the letter of a class
unfoldable pub letter : Class → ℕ
letter Unclassified = code "U"
letter Classified = code "C"
letter Secret = code "S"

-- the designator in columns 10 to 17
unfoldable pub designator_at : List ℕ → Designator
designator_at line = cond (is_blank (get_or line 9 0)) Blank (Piece (field 9 5 line) (get_or line 14 0) (get_or line 15 0) (get_or line 16 0))

-- years 57 to 99 are 1957 to 1999 and 00 to 56 are 2000 to 2056
unfoldable pub year_of : ℕ → ℕ
year_of yy = cond (leb 57 yy) (1900 + yy) (2000 + yy)

-- the byte after the first at is a minus sign
abbrev pub minus_at : ℕ → List ℕ → Bool
minus_at at line = eqb (get_or line at 0) (code "-")

-- sign, point, eight digits in columns 34 to 43
unfoldable pub ndot_at : List ℕ → ℤ
ndot_at line = signed (minus_at 33 line) (field 35 8 line)

-- sign, five digits, sign of the exponent, one digit; a zero mantissa reads with exponent 0
unfoldable pub scaled_at : ℕ → List ℕ → Scaled
scaled_at at line = record {
  mantissa = signed (minus_at at line) (field (at + 1) 5 line);
  exponent = cond (eqb (field (at + 1) 5 line) 0) (pos 0) (signed (minus_at (at + 6) line) (field (at + 7) 1 line));
}

-- ddd.dddddddd in columns 21 to 32, in 10 ^ -8 of a day
unfoldable pub day_at : List ℕ → ℕ
day_at line = field 20 3 line * 100000000 + field 24 8 line

-- dd.dddddddd in columns 53 to 63, in 10 ^ -8 of a revolution a day
unfoldable pub motion_at : List ℕ → ℕ
motion_at line = field 52 2 line * 100000000 + field 55 8 line

-- ddd.dddd in 0.0001 degree
unfoldable pub degrees_at : ℕ → List ℕ → ℕ
degrees_at at line = field at 3 line * 10000 + field (at + 4) 4 line

-- each field of two lawful lines, in its last decimal place
unfoldable pub fields_of : List ℕ → List ℕ → Record
fields_of line1 line2 = record {
  number = number_at line1;
  class = class_of (get_or line1 7 0);
  designator = designator_at line1;
  year = year_of (field 18 2 line1);
  day = day_at line1;
  ndot = ndot_at line1;
  nddot = scaled_at 44 line1;
  bstar = scaled_at 53 line1;
  ephemeris = field 62 1 line1;
  element = field 64 4 line1;
  inclination = degrees_at 8 line2;
  node = degrees_at 17 line2;
  eccentricity = field 26 7 line2;
  perigee = degrees_at 34 line2;
  anomaly = degrees_at 43 line2;
  motion = motion_at line2;
  revolution = field 63 5 line2;
}

-- a verdict on two lines, with their fields, which an accepted form yields
abbrev pub formed : Result (Unit {0}) Refusal → Record → Result Fields Refusal
formed (Ok tt) r = Ok (record { 0 = r; 1 = true })
formed (Err why) r = Err why

-- fields, whoever gives them: whether an accepted form yields them is judged (`FormsExactly` of specs/Claims of crate `tle_writer`). Those
-- of a form are no other (`FormsYield` of specs/Claims)
abbrev pub given : Record → Fields
given r = record { 0 = r; 1 = in_form r }

-- the form of two lines: refusals 1 to 5, or the fields
unfoldable pub form_of : List ℕ → List ℕ → Result Fields Refusal
form_of line1 line2 = formed (pair_of line1 line2) (fields_of line1 line2)

-- refusal 6: the first field out of its range, in column order
unfoldable pub ranges_of : Record → Result Record Refusal
ranges_of r =
    unless (day_in_range r.year r.day) (Err (Range Day))
    (unless (inclination_in_range r.inclination) (Err (Range Inclination))
    (unless (angle_in_range r.node) (Err (Range Node))
    (unless (angle_in_range r.perigee) (Err (Range Perigee))
    (unless (angle_in_range r.anomaly) (Err (Range Anomaly))
    (unless (motion_in_range r.motion) (Err (Range Motion)) (Ok r))))))

-- the meaning of fields: 16 where no accepted form yields them, then 6, or the record
unfoldable pub meaning_of : Fields → Result Record Refusal
meaning_of f = unless f.1 (Err NoForm) (ranges_of f.0)

-- the refusal of a form that is refused; of fields, which are not, it counts as 16
abbrev pub refusal_in : Result Fields Refusal → Refusal
refusal_in (Ok f) = NoForm
refusal_in (Err why) = why

-- what the two operations give, one after the other: the form's refusal, or the meaning of its fields
abbrev pub meant : Result Fields Refusal → Result Record Refusal
meant (Ok f) = meaning_of f
meant (Err why) = Err why

-- a form's refusal, or 6, or the record
abbrev pub ranged : Result Fields Refusal → Result Record Refusal
ranged (Ok f) = ranges_of f.0
ranged (Err why) = Err why

-- reading as a whole: refusals 1 to 5, then 6. The two operations give the same (`FormThenMeaning` of specs/Claims)
unfoldable pub read_of : List ℕ → List ℕ → Result Record Refusal
read_of line1 line2 = ranged (form_of line1 line2)
