-- The numbers of fields in form are small, and so those of a legal record.
use Prim.Native.Nat.{ℕ, ◌<◌, ◌^◌}
use mathlib.Core.Path.{◌≡◌, refl}
use mathlib.Core.Bool.{Bool, true, false, not, ◌&&◌, ◌||◌}
use native.Mathlib.Omega.{arith}
use borrow.Author.Tests.{ltb-true, leb-true, eqb-true}
use lib.Dec.{eqb, leb, ltb}
use lib.IntN.{nat_abs}
use Rattle.columns.specs.Layout.{is_letter, is_blank}
use Rattle.tle.specs.Legal.{legal, in_form, designator_fits, scaled_fits}
use Rattle.tle.specs.declared.Class.{Class}
use Rattle.tle.specs.declared.Class.TheVariants.{Unclassified, Classified, Secret}
use Rattle.tle.specs.declared.Designator.{Designator}
use Rattle.tle.specs.declared.Designator.TheVariants.{Blank, Piece}
use Rattle.tle.specs.declared.Scaled.{Scaled}
use Rattle.tle.specs.declared.Record.{Record}
use Rattle.tle.specs.Read.{letter}
use Rattle.tle_writer.proofs.Facts.{both, formed, legal_in_form}
use Rattle.record_numbers.specs.Numbers.{places_of, Small}

-- a byte that is not 0
abbrev Byte : ℕ → Type 0
Byte b = (0 < b) × (b < 256)

pub class_byte : (c : Class) → Byte (letter c)
unfolding letter
class_byte Unclassified = (omega arith, omega arith)
class_byte Classified = (omega arith, omega arith)
class_byte Secret = (omega arith, omega arith)

letter_byte : (b : ℕ) → is_letter b ≡ true → Byte b
letter_byte b h = let t = both (leb 65 b) (leb b 90) h in (omega (arith, leb-true 65 b t.0), omega (arith, leb-true b 90 t.1))

blank_byte : (b : ℕ) → is_blank b ≡ true → Byte b
blank_byte b h = (omega (arith, eqb-true b 32 h), omega (arith, eqb-true b 32 h))

place_byte : (t : Bool) (b : ℕ) → is_letter b ≡ t → is_letter b || is_blank b ≡ true → Byte b
place_byte true b e h = letter_byte b e
place_byte false b e h = blank_byte b (rw e at h)

last_byte : (t : Bool) (b c : ℕ) → is_letter c && is_letter b ≡ t → is_letter c && is_letter b || is_blank c ≡ true → Byte c
last_byte true b c e h = letter_byte c (both (is_letter c) (is_letter b) e).0
last_byte false b c e h = blank_byte c (rw e at h)

-- the launch has five digits, the places are bytes
pub places_small : (d : Designator) → designator_fits d ≡ true → ((places_of d).launch < 10 ^ 5) × Byte (places_of d).a × Byte (places_of d).b × Byte (places_of d).c
unfolding designator_fits places_of
places_small Blank h = (omega arith, (omega arith, omega arith), (omega arith, omega arith), (omega arith, omega arith))
places_small (Piece n a b c) h =
    let abc = both (ltb n 100000 && is_letter a && (is_letter b || is_blank b)) (is_letter c && is_letter b || is_blank c) h in
    let ab = both (ltb n 100000 && is_letter a) (is_letter b || is_blank b) abc.0 in
    let na = both (ltb n 100000) (is_letter a) ab.0 in
    (ltb-true n 100000 na.0, letter_byte a na.1, place_byte (is_letter b) b refl ab.1, last_byte (is_letter c && is_letter b) b c refl abc.1)

-- five digits and an exponent of one
scaled_small : (s : Scaled) → scaled_fits s ≡ true → (nat_abs s.mantissa < 100000) × (nat_abs s.exponent < 10)
unfolding scaled_fits
scaled_small s h =
    let t = both (ltb (nat_abs s.mantissa) 100000 && ltb (nat_abs s.exponent) 10) (not (eqb (nat_abs s.mantissa) 0) || eqb (nat_abs s.exponent) 0) h in
    let u = both (ltb (nat_abs s.mantissa) 100000) (ltb (nat_abs s.exponent) 10) t.0 in
    (ltb-true _ _ u.0, ltb-true _ _ u.1)

pub small_form : (r : Record) → in_form r ≡ true → Small r
small_form r h =
    let k = formed r h in
    let d = places_small r.designator k.designator in
    let n = scaled_small r.nddot k.nddot in
    let b = scaled_small r.bstar k.bstar in (
      omega (arith, d.0),
      omega (arith, d.1),
      omega (arith, d.2),
      omega (arith, d.3),
      omega (arith, k.number),
      omega (arith, k.year_high),
      omega (arith, k.day),
      omega (arith, k.ephemeris),
      omega (arith, k.element),
      omega (arith, k.inclination),
      omega (arith, k.node),
      omega (arith, k.eccentricity),
      omega (arith, k.perigee),
      omega (arith, k.anomaly),
      omega (arith, k.motion),
      omega (arith, k.revolution),
      omega (arith, k.ndot),
      omega (arith, n.0),
      omega (arith, n.1),
      omega (arith, b.0),
      omega (arith, b.1),
    )

pub small : (r : Record) → legal r ≡ true → Small r
small r h = small_form r (legal_in_form r h)
