-- The fields of the two lines of a record in form are the record's.
use Prim.Native.Nat.{ℕ, ◌+◌, ◌/◌, ◌%◌, ◌<◌, ◌^◌}
use mathlib.Core.Path.{◌≡◌, refl, ap, ◌∙◌}
use mathlib.Core.List.{List, [], ◌∷◌, ◌++◌}
use mathlib.Core.Bool.{Bool, true, false, cond, ◌&&◌, ◌||◌}
use native.Mathlib.Omega.{arith}
use borrow.Author.Tests.{ltb-true, ne_eqb}
use lib.Dec.{eqb, ltb}
use Rattle.text.specs.Output.{bytes}
use Rattle.columns.specs.Layout.{is_letter, is_blank}
use Rattle.tle.specs.Number.{value_on}
use Rattle.tle.specs.Legal.{designator_fits}
use Rattle.tle.specs.Read.{number_at, designator_at, ndot_at, scaled_at, day_at, motion_at, degrees_at, fields_of, letter}
use Rattle.tle.specs.declared.Record.{Record}
use Rattle.tle.specs.declared.Designator.{Designator}
use Rattle.tle.specs.declared.Designator.TheVariants.{Blank, Piece}
use Rattle.tle.specs.declared.Line.TheVariants.{One, Two}
use Rattle.tle_writer.specs.Field.{place, lead, digits, number_places, right, day_places, fraction, scaled}
use Rattle.tle_writer.specs.Lines.{join, body_of, closed_of, line_of}
use Rattle.tle_writer.proofs.Bodies.{zero_of, launch_of, first_of, second_of, third_of, places}
use Rattle.tle_writer.proofs.Facts.{Held, both}
use Rattle.tle_writer.proofs.Values.{digits_value, right_value, degrees_value, motion_value, day_value, year_value, class_value, written_value, mantissa_value, exponent_value}
use Rattle.tle_writer.proofs.Numbers.{numbers_read_back}

-- line 1 with the eight bytes of a designator
abbrev with1 : List ℕ → Record → List ℕ
with1 d r = closed_of (join (
    bytes "1 " ∷ number_places r.number ∷ (letter r.class ∷ [])
    ∷ bytes " " ∷ d
    ∷ bytes " " ∷ digits 2 (r.year % 100) ∷ day_places r.day
    ∷ bytes " " ∷ fraction r.ndot
    ∷ bytes " " ∷ scaled r.nddot
    ∷ bytes " " ∷ scaled r.bstar
    ∷ bytes " " ∷ digits 1 r.ephemeris ∷ bytes " " ∷ right 3 r.element
    ∷ []))

abbrev marks : Designator → List ℕ
marks d = lead (zero_of d) 5 (launch_of d) ++ (first_of d ∷ []) ++ (second_of d ∷ []) ++ (third_of d ∷ [])

line1 : (r : Record) → line_of One r ≡ with1 (marks r.designator) r
unfolding line_of body_of
line1 r = ap (λ (d : List ℕ). with1 d r) (places r.designator)

-- a digit is no blank
no_blank : (t : Bool) (n : ℕ) → eqb n 0 ≡ t → is_blank (place 48 n) ≡ false
unfolding place
no_blank true n e = rw e
no_blank false n e = rw e (ne_eqb (48 + n % 10) 32 (λ h. omega arith))

pub launch_below : (n a b c : ℕ) → designator_fits (Piece n a b c) ≡ true → n < 10 ^ 5
unfolding designator_fits
launch_below n a b c h =
    let abc = both (ltb n 100000 && is_letter a && (is_letter b || is_blank b)) (is_letter c && is_letter b || is_blank c) h in
    let ab = both (ltb n 100000 && is_letter a) (is_letter b || is_blank b) abc.0 in
    ltb-true n 100000 (both (ltb n 100000) (is_letter a) ab.0).0

designator_value : (d : Designator) → designator_fits d ≡ true →
    cond (is_blank (place (zero_of d) (launch_of d / 10 / 10 / 10 / 10))) Blank
    (Piece (value_on 0 (lead (zero_of d) 5 (launch_of d))) (first_of d) (second_of d) (third_of d))
    ≡ d
unfolding place
designator_value Blank h = refl
designator_value (Piece n a b c) h =
    rw (no_blank (eqb (n / 10 / 10 / 10 / 10) 0) (n / 10 / 10 / 10 / 10) refl, digits_value 5 n (launch_below n a b c h))

flat : (r : Record) → Held r → fields_of (with1 (marks r.designator) r) (line_of Two r) ≡ r
unfolding fields_of number_at designator_at ndot_at scaled_at day_at motion_at degrees_at line_of body_of closed_of join lead
flat r k = λ i. record {
  number = numbers_read_back r.number k.number i;
  class = class_value r.class i;
  designator = designator_value r.designator k.designator i;
  year = year_value r.year k.year_low k.year_high i;
  day = day_value r.day k.day i;
  ndot = written_value 8 r.ndot k.ndot i;
  nddot = record {
    mantissa = mantissa_value r.nddot k.nddot i;
    exponent = exponent_value r.nddot k.nddot i;
  };
  bstar = record {
    mantissa = mantissa_value r.bstar k.bstar i;
    exponent = exponent_value r.bstar k.bstar i;
  };
  ephemeris = digits_value 1 r.ephemeris k.ephemeris i;
  element = right_value 3 r.element k.element i;
  inclination = degrees_value r.inclination k.inclination i;
  node = degrees_value r.node k.node i;
  eccentricity = digits_value 7 r.eccentricity k.eccentricity i;
  perigee = degrees_value r.perigee k.perigee i;
  anomaly = degrees_value r.anomaly k.anomaly i;
  motion = motion_value r.motion k.motion i;
  revolution = right_value 4 r.revolution k.revolution i;
}

pub fields_back : (r : Record) → Held r → fields_of (line_of One r) (line_of Two r) ≡ r
fields_back r k = ap (λ (l : List ℕ). fields_of l (line_of Two r)) (line1 r) ∙ flat r k
