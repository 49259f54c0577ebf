-- A record as 22 whole numbers, in the order of document 01's printed pair, in memory that a caller lends. Definitions only.
--
--   0 number; 1 class, the byte of its letter; 2 launch and 3-5 the three places of the designator, as bytes; 6 year; 7 day;
--   8 ndot; 9-10 nddot, mantissa and exponent; 11-12 bstar, the same; 13 type; 14 set; 15 inclination; 16 node;
--   17 eccentricity; 18 perigee; 19 anomaly; 20 motion; 21 revolution
use Rattle.std.specs.Prelude.{ℕ, ◌+◌, ◌<◌, ◌^◌, Bool, cond, ◌&&◌, ◌||◌, List, [], ◌∷◌, ◌++◌, eqb, ltb, ℤ, pos, negsuc, nat_abs, length, drop, get_or, Err, None, Ok, Option, Result, Some}
use Prim.Native.Char.{code}
use Rattle.tle.specs.Legal.{in_form, legal}
use Rattle.tle.specs.Read.{class_of, letter, given, meaning_of}
use Rattle.tle.specs.declared.Designator.{Designator}
use Rattle.tle.specs.declared.Designator.TheVariants as designator
use Rattle.tle.specs.declared.Scaled.{Scaled}
use Rattle.tle.specs.declared.Record.{Record}
use Rattle.tle.specs.declared.Fields as tle-fields
use Rattle.tle.specs.declared.Refusal.TheVariants.{NoForm}
use Rattle.record_numbers.specs.declared.GivenRefusal.{GivenRefusal}
use Rattle.record_numbers.specs.declared.GivenRefusal.TheVariants as given_refusal
use Rattle.tle.specs.declared.Refusal.{Refusal}
use Rattle.record_numbers.specs.declared.Places.{Places}

-- ── the numbers of a record ──

-- a blank designator is launch 0 and three blanks
unfoldable pub places_of : Designator → Places
places_of designator.Blank = record { launch = 0; a = code " "; b = code " "; c = code " " }
places_of (designator.Piece launch a b c) = record { launch = launch; a = a; b = b; c = c }

unfoldable pub numbers_of : Record → List ℤ
numbers_of r =
    let d = places_of r.designator in
    pos r.number ∷ pos (letter r.class) ∷ pos d.launch ∷ pos d.a ∷ pos d.b ∷ pos d.c ∷ pos r.year ∷ pos r.day
    ∷ r.ndot ∷ r.nddot.mantissa ∷ r.nddot.exponent ∷ r.bstar.mantissa ∷ r.bstar.exponent ∷ pos r.ephemeris ∷ pos r.element
    ∷ pos r.inclination ∷ pos r.node ∷ pos r.eccentricity ∷ pos r.perigee ∷ pos r.anomaly ∷ pos r.motion ∷ pos r.revolution ∷ []

-- numbers that an i64 holds; those of a legal record are (`small` of proofs/Small)
abbrev pub Small : Record → Type 0
Small r =
    ((places_of r.designator).launch < 2 ^ 63) × ((places_of r.designator).a < 2 ^ 63) × ((places_of r.designator).b < 2 ^ 63) × ((places_of r.designator).c < 2 ^ 63)
    × (r.number < 2 ^ 63) × (r.year < 2 ^ 63) × (r.day < 2 ^ 63) × (r.ephemeris < 2 ^ 63) × (r.element < 2 ^ 63)
    × (r.inclination < 2 ^ 63) × (r.node < 2 ^ 63) × (r.eccentricity < 2 ^ 63) × (r.perigee < 2 ^ 63) × (r.anomaly < 2 ^ 63)
    × (r.motion < 2 ^ 63) × (r.revolution < 2 ^ 63)
    × (nat_abs r.ndot < 2 ^ 63) × (nat_abs r.nddot.mantissa < 2 ^ 63) × (nat_abs r.nddot.exponent < 2 ^ 63)
    × (nat_abs r.bstar.mantissa < 2 ^ 63) × (nat_abs r.bstar.exponent < 2 ^ 63)

-- ── the record of numbers ──

-- a number without a sign; one below 0 counts as 2 ^ 64 - 1, which no field holds
unfoldable pub whole : ℤ → ℕ
whole (pos n) = n
whole (negsuc n) = 18446744073709551615

-- a byte; any other number counts as 0, which is no class and which no designator holds
unfoldable pub byte : ℤ → ℕ
byte x = cond (ltb (whole x) 256) (whole x) 0

unfoldable pub designator_from : ℕ → ℕ → ℕ → ℕ → Designator
designator_from launch a b c =
    cond (eqb launch 0 && eqb a (code " ") && eqb b (code " ") && eqb c (code " ")) designator.Blank (designator.Piece launch a b c)

abbrev pub at : List ℤ → ℕ → ℤ
at ns i = get_or ns i (pos 0)

unfoldable pub designator_at : List ℤ → Designator
designator_at ns = designator_from (whole (at ns 2)) (byte (at ns 3)) (byte (at ns 4)) (byte (at ns 5))

abbrev pub scaled_at : List ℤ → ℕ → Scaled
scaled_at ns i = record { mantissa = at ns i; exponent = at ns (i + 1) }

unfoldable pub record_at : List ℤ → Record
record_at ns = record {
  number = whole (at ns 0);
  class = class_of (byte (at ns 1));
  designator = designator_at ns;
  year = whole (at ns 6);
  day = whole (at ns 7);
  ndot = at ns 8;
  nddot = scaled_at ns 9;
  bstar = scaled_at ns 11;
  ephemeris = whole (at ns 13);
  element = whole (at ns 14);
  inclination = whole (at ns 15);
  node = whole (at ns 16);
  eccentricity = whole (at ns 17);
  perigee = whole (at ns 18);
  anomaly = whole (at ns 19);
  motion = whole (at ns 20);
  revolution = whole (at ns 21);
}

-- U, C or S
unfoldable pub is_class : ℕ → Bool
is_class b = eqb b (code "U") || eqb b (code "C") || eqb b (code "S")

-- fewer than 22 numbers hold no record
unfoldable pub given_of : List ℤ → Result Record GivenRefusal
given_of ns = cond (ltb (length ns) 22) (Err given_refusal.TooShort) (cond (is_class (byte (at ns 1))) (Ok (record_at ns)) (Err given_refusal.NoClass))

-- document 01's number of each answer; nothing comes back with it
abbrev pub number_of : Result Record GivenRefusal → ℕ
number_of (Ok r) = 0
number_of (Err given_refusal.NoClass) = 16
number_of (Err given_refusal.TooShort) = 17

-- ── what storing leaves: refusal 16, then 17, and nothing is written ──

-- of memory with n numbers
unfoldable pub store_refusal : Record → ℕ → ℕ
store_refusal r n = cond (legal r) (cond (ltb n 22) 17 0) 16

-- what lies past a record stays
unfoldable pub stored_over : Record → List ℤ → List ℤ
stored_over r ns = cond (eqb (store_refusal r (length ns)) 0) (numbers_of r ++ drop 22 ns) ns

-- ── document 02, wish 9: fields that are not judged ──

-- they are stored in range or not; 16 where no accepted form yields them, then 17
unfoldable pub fields_refusal : tle-fields.Fields → ℕ → ℕ
fields_refusal f n = cond (in_form f.0) (cond (ltb n 22) 17 0) 16

unfoldable pub fields_over : tle-fields.Fields → List ℤ → List ℤ
fields_over f ns = cond (eqb (fields_refusal f (length ns)) 0) (numbers_of f.0 ++ drop 22 ns) ns

-- what the fields of numbers mean; a class that is none is in no form
abbrev pub judged_by : Result Record GivenRefusal → Option (Result Record Refusal)
judged_by (Ok r) = Some (meaning_of (given r))
judged_by (Err given_refusal.NoClass) = Some (Err NoForm)
judged_by (Err given_refusal.TooShort) = None

unfoldable pub judged_of : List ℤ → Option (Result Record Refusal)
judged_of ns = judged_by (given_of ns)
