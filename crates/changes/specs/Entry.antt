-- Document 02, wish 7, over two records of one number: "each field that differs, in the printing program's order", and how a difference is applied.
use Rattle.std.specs.Prelude.{ℕ, ◌+◌, ◌*◌, ◌/◌, Bool, true, false, cond, ◌&&◌, List, [], ◌∷◌, ◌++◌, eqb, ℤ, pos, negsuc, nat_abs, ◌+ℤ◌, ◌-ℤ◌, None, Option, Some}
use Rattle.std.proofs.Math.IntN.{sub_ℕ}
use Rattle.instant.specs.Calendar.{epoch_micros, date_of}
use Rattle.instant.specs.declared.Date.{Date}
use Rattle.tle.specs.declared.Class.{Class}
use Rattle.tle.specs.declared.Designator.{Designator}
use Rattle.tle.specs.declared.Designator.TheVariants.{Blank, Piece}
use Rattle.tle.specs.declared.Scaled.{Scaled}
use Rattle.tle.specs.declared.Record.{Record}
use Rattle.tle.specs.Read.{letter}
use Rattle.roster.specs.Records.{instant_of}

-- the fields that are counts in their last place, in the printing program's order
pub data Count : Type 0 where
  Ephemeris : Count
  Element : Count
  Inclination : Count
  Node : Count
  Eccentricity : Count
  Perigee : Count
  Anomaly : Count
  Motion : Count
  Revolution : Count

abbrev pub in_order : List Count
in_order = Ephemeris ∷ Element ∷ Inclination ∷ Node ∷ Eccentricity ∷ Perigee ∷ Anomaly ∷ Motion ∷ Revolution ∷ []

abbrev pub count : Count → Record → ℕ
count Ephemeris r = r.ephemeris
count Element r = r.element
count Inclination r = r.inclination
count Node r = r.node
count Eccentricity r = r.eccentricity
count Perigee r = r.perigee
count Anomaly r = r.anomaly
count Motion r = r.motion
count Revolution r = r.revolution

-- one field that differs: "the second's value less the first's in the field's last place. Epochs differ in microseconds;
-- exponent fields, class and designator show the first's value, then the second's"
pub data Entry : Type 0 where
  Classes : Class → Class → Entry
  Designators : Designator → Designator → Entry
  Epochs : ℤ → Entry
  Ndots : ℤ → Entry
  Nddots : Scaled → Scaled → Entry
  Bstars : Scaled → Scaled → Entry
  Counts : Count → ℤ → Entry

-- ── which fields differ ──

unfoldable pub sameℤ : ℤ → ℤ → Bool
sameℤ (pos a) (pos b) = eqb a b
sameℤ (pos a) (negsuc b) = false
sameℤ (negsuc a) (pos b) = false
sameℤ (negsuc a) (negsuc b) = eqb a b

unfoldable pub same_class : Class → Class → Bool
same_class a b = eqb (letter a) (letter b)

unfoldable pub same_designator : Designator → Designator → Bool
same_designator Blank Blank = true
same_designator Blank (Piece m d e f) = false
same_designator (Piece l a b c) Blank = false
same_designator (Piece l a b c) (Piece m d e f) = eqb l m && (eqb a d && (eqb b e && eqb c f))

unfoldable pub same_scaled : Scaled → Scaled → Bool
same_scaled a b = sameℤ a.mantissa b.mantissa && sameℤ a.exponent b.exponent

abbrev pub unless : Bool → Entry → List Entry
unless true e = []
unless false e = e ∷ []

-- "the second's value less the first's"
abbrev pub counts : List Count → Record → Record → List Entry
counts [] a b = []
counts (c ∷ cs) a b = unless (eqb (count c a) (count c b)) (Counts c (sub_ℕ (count c b) (count c a))) ++ counts cs a b

unfoldable pub differences : Record → Record → List Entry
differences a b =
    unless (same_class a.class b.class) (Classes a.class b.class)
    ++ (unless (same_designator a.designator b.designator) (Designators a.designator b.designator)
    ++ (unless (eqb (instant_of a) (instant_of b)) (Epochs (sub_ℕ (instant_of b) (instant_of a)))
    ++ (unless (sameℤ a.ndot b.ndot) (Ndots (b.ndot -ℤ a.ndot))
    ++ (unless (same_scaled a.nddot b.nddot) (Nddots a.nddot b.nddot)
    ++ (unless (same_scaled a.bstar b.bstar) (Bstars a.bstar b.bstar)
    ++ counts in_order a b)))))

-- ── a difference applied ──

-- a count moved by a difference
abbrev pub moved : ℕ → ℤ → ℕ
moved n d = nat_abs (d +ℤ pos n)

abbrev pub class_by : Entry → Class → Class
class_by (Classes x y) c = y
class_by (Designators x y) c = c
class_by (Epochs d) c = c
class_by (Ndots d) c = c
class_by (Nddots x y) c = c
class_by (Bstars x y) c = c
class_by (Counts k d) c = c

abbrev pub designator_by : Entry → Designator → Designator
designator_by (Classes x y) g = g
designator_by (Designators x y) g = y
designator_by (Epochs d) g = g
designator_by (Ndots d) g = g
designator_by (Nddots x y) g = g
designator_by (Bstars x y) g = g
designator_by (Counts k d) g = g

-- year and day of an instant, as a record keeps them
abbrev pub year_in : Option Date → ℕ → ℕ
year_in (Some t) year = t.year
year_in None year = year

abbrev pub day_in : Option Date → ℕ → ℕ
day_in (Some t) day = t.day * 100000000 + t.micros / 864
day_in None day = day

abbrev pub year_by : Entry → ℕ → ℕ → ℕ
year_by (Classes x y) year day = year
year_by (Designators x y) year day = year
year_by (Epochs d) year day = year_in (date_of (moved (epoch_micros year day) d)) year
year_by (Ndots d) year day = year
year_by (Nddots x y) year day = year
year_by (Bstars x y) year day = year
year_by (Counts k d) year day = year

abbrev pub day_by : Entry → ℕ → ℕ → ℕ
day_by (Classes x y) year day = day
day_by (Designators x y) year day = day
day_by (Epochs d) year day = day_in (date_of (moved (epoch_micros year day) d)) day
day_by (Ndots d) year day = day
day_by (Nddots x y) year day = day
day_by (Bstars x y) year day = day
day_by (Counts k d) year day = day

abbrev pub ndot_by : Entry → ℤ → ℤ
ndot_by (Classes x y) z = z
ndot_by (Designators x y) z = z
ndot_by (Epochs d) z = z
ndot_by (Ndots d) z = d +ℤ z
ndot_by (Nddots x y) z = z
ndot_by (Bstars x y) z = z
ndot_by (Counts k d) z = z

abbrev pub nddot_by : Entry → Scaled → Scaled
nddot_by (Classes x y) s = s
nddot_by (Designators x y) s = s
nddot_by (Epochs d) s = s
nddot_by (Ndots d) s = s
nddot_by (Nddots x y) s = y
nddot_by (Bstars x y) s = s
nddot_by (Counts k d) s = s

abbrev pub bstar_by : Entry → Scaled → Scaled
bstar_by (Classes x y) s = s
bstar_by (Designators x y) s = s
bstar_by (Epochs d) s = s
bstar_by (Ndots d) s = s
bstar_by (Nddots x y) s = s
bstar_by (Bstars x y) s = y
bstar_by (Counts k d) s = s

abbrev pub place : Count → ℕ
place Ephemeris = 0
place Element = 1
place Inclination = 2
place Node = 3
place Eccentricity = 4
place Perigee = 5
place Anomaly = 6
place Motion = 7
place Revolution = 8

abbrev pub count_by : Count → Entry → ℕ → ℕ
count_by c (Classes x y) n = n
count_by c (Designators x y) n = n
count_by c (Epochs d) n = n
count_by c (Ndots d) n = n
count_by c (Nddots x y) n = n
count_by c (Bstars x y) n = n
count_by c (Counts k d) n = cond (eqb (place k) (place c)) (moved n d) n

abbrev pub patch : Entry → Record → Record
patch e r = record {
  number = r.number;
  class = class_by e r.class;
  designator = designator_by e r.designator;
  year = year_by e r.year r.day;
  day = day_by e r.year r.day;
  ndot = ndot_by e r.ndot;
  nddot = nddot_by e r.nddot;
  bstar = bstar_by e r.bstar;
  ephemeris = count_by Ephemeris e r.ephemeris;
  element = count_by Element e r.element;
  inclination = count_by Inclination e r.inclination;
  node = count_by Node e r.node;
  eccentricity = count_by Eccentricity e r.eccentricity;
  perigee = count_by Perigee e r.perigee;
  anomaly = count_by Anomaly e r.anomaly;
  motion = count_by Motion e r.motion;
  revolution = count_by Revolution e r.revolution;
}

unfoldable pub patch_all : List Entry → Record → Record
patch_all [] r = r
patch_all (e ∷ es) r = patch_all es (patch e r)
