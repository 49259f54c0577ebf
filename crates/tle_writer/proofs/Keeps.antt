-- What is written keeps the layout: each field's bytes keep the classes of its columns, whatever stands before them.
use Prim.Native.Nat.{ℕ, zero, suc, ◌+◌, ◌/◌, ◌%◌, ◌^◌, ◌<◌}
use mathlib.Core.Path.{◌≡◌, refl, ap, sym, ◌∙◌}
use mathlib.Core.List.{List, [], ◌∷◌, ◌++◌}
use mathlib.Core.Bool.{Bool, true, false, ◌&&◌, ◌||◌, not, and-false, or-false, or-true, or_comm}
use native.Mathlib.Omega.{arith}
use borrow.Author.Tests.{eqb-true, eq-eqb, ne_eqb, le-leb, leb-true}
use lib.Dec.{eqb, leb, ltb}
use lib.IntN.{ℤ, pos, negsuc, nat_abs}
use lib.ListN.{length, get_or}
use Rattle.text.specs.Output.{bytes}
use Rattle.columns.specs.Layout.{is_digit, is_letter, is_blank, fits, agreed}
use Rattle.columns.specs.FirstPlace.{first_places}
use Rattle.tle.specs.Legal.{designator_fits}
use Rattle.tle.specs.Read.{letter}
use Rattle.tle.specs.declared.Class.{Class}
use Rattle.tle.specs.declared.Class.TheVariants.{Unclassified, Classified, Secret}
use Rattle.tle.specs.declared.Designator.{Designator}
use Rattle.tle.specs.declared.Designator.TheVariants.{Blank, Piece}
use Rattle.tle.specs.declared.Scaled.{Scaled}
use Rattle.tle_writer.specs.Field.{place, lead, right, digits, number_places, pointed, day_places, sign, fraction, exponent_sign, scaled, designator}
use Rattle.columns.proofs.FirstPlaces.{place_opens}
use Rattle.tle.proofs.FirstPlaces.{fits_N}
use Rattle.tle_writer.proofs.Facts.{both}

infixr 20 ◌then◌
infixr 20 ◌⊳◌
-- bytes that keep the classes in every column; a: a blank stands before them
pub data Keeps : List ℕ → Bool → List ℕ → Type 0 where
  end : {a : Bool} → Keeps [] a []
  ◌then◌ : {c : ℕ} {cs : List ℕ} {a : Bool} {b : ℕ} {bs : List ℕ} → fits c a b ≡ true → Keeps cs (is_blank b) bs → Keeps (c ∷ cs) a (b ∷ bs)

pub keeps_agreed : {cs : List ℕ} {a : Bool} {bs : List ℕ} → Keeps cs a bs → agreed cs a bs ≡ length cs
unfolding agreed
keeps_agreed end = refl
keeps_agreed (f then k) = rw f (ap suc (keeps_agreed k))

-- the last byte is a blank; a where there is none
unfoldable blank_end : Bool → List ℕ → Bool
blank_end a [] = a
blank_end a (b ∷ bs) = blank_end (is_blank b) bs

blank_end_snoc : (a : Bool) (bs : List ℕ) (b : ℕ) → blank_end a (bs ++ (b ∷ [])) ≡ is_blank b
unfolding blank_end
blank_end_snoc a [] b = refl
blank_end_snoc a (x ∷ bs) b = blank_end_snoc (is_blank x) bs b

append : {cs ds : List ℕ} {a : Bool} {bs es : List ℕ} → Keeps cs a bs → Keeps ds (blank_end a bs) es → Keeps (cs ++ ds) a (bs ++ es)
unfolding blank_end
append end l = l
append (f then k) l = f then append k l

-- a field: bytes that keep their classes after any byte; and fields side by side
abbrev pub Field : List ℕ → List ℕ → Type 0
Field cs bs = (a : Bool) → Keeps cs a bs

pub ◌⊳◌ : {cs ds bs es : List ℕ} → Field cs bs → Field ds es → Field (cs ++ ds) (bs ++ es)
◌⊳◌ {cs} {ds} {bs} {es} k l = λ a. append (k a) (l (blank_end a bs))

pub none : Field [] []
none a = end

one : {c b : ℕ} → ((a : Bool) → fits c a b ≡ true) → Field (c ∷ []) (b ∷ [])
one h a = h a then end

pub blank : Field (bytes " ") (bytes " ")
blank a = refl then end

pub point : Field (bytes ".") (bytes ".")
point a = refl then end

-- what a class asks, by itself
pub fits_D : (a : Bool) (b : ℕ) → fits 68 a b ≡ is_digit b
fits_D a b = simp (and-false, or-false)

fits_R : (a : Bool) (b : ℕ) → fits 82 a b ≡ (is_blank b || is_digit b)
fits_R a b = simp (and-false, or-false)

fits_r : (a : Bool) (b : ℕ) → fits 114 a b ≡ (is_digit b || is_blank b && a)
fits_r a b = simp (and-false, or-false)

fits_f : (b : ℕ) → fits 102 false b ≡ is_digit b
fits_f b = simp (and-false, or-false)

fits_L : (b : ℕ) → fits 76 false b ≡ is_letter b
fits_L b = simp (and-false, or-false)

fits_l : (a : Bool) (b : ℕ) → fits 108 a b ≡ (is_blank b || not a && is_letter b)
fits_l a b = simp (and-false, or-false)

-- the places of a number: digits, or blanks where the number is 0
is_digit_lem : (d : ℕ) → d < 10 → is_digit (48 + d) ≡ true
is_digit_lem d h = rw (le-leb 48 (48 + d) (omega arith), le-leb (48 + d) 57 (omega arith))

digit_place : (t : Bool) (n : ℕ) → eqb n 0 ≡ t → (is_digit (place 48 n) ≡ true) × (is_blank (place 48 n) ≡ false)
unfolding place
digit_place true n e = (rw e, rw e)
digit_place false n e = (rw e (is_digit_lem (n % 10) (omega arith)), rw e (ne_eqb (48 + n % 10) 32 (λ h. omega arith)))

module _ (n : ℕ) where
  is_place : is_digit (place 48 n) ≡ true
  is_place = (digit_place (eqb n 0) n refl).0

  not_blank : is_blank (place 48 n) ≡ false
  not_blank = (digit_place (eqb n 0) n refl).1

blank_place : (t : Bool) (n : ℕ) → eqb n 0 ≡ t → is_blank (place 32 n) ≡ t
unfolding place
blank_place true n e = rw e
blank_place false n e = rw (e, ne_eqb (48 + n % 10) 32 (λ h. omega arith))

first_fits : (t : Bool) (n : ℕ) (a : Bool) → eqb n 0 ≡ t → fits 82 a (place 32 n) ≡ true
unfolding place
first_fits true n a e = fits_R a (place 32 n) ∙ rw e
first_fits false n a e = fits_R a (place 32 n) ∙ rw (e, is_digit_lem (n % 10) (omega arith)) (or-true (eqb (48 + n % 10) 32))

later_fits : (t : Bool) (n : ℕ) → eqb n 0 ≡ t → fits 114 (eqb (n / 10) 0) (place 32 n) ≡ true
unfolding place
later_fits true n e = fits_r (eqb (n / 10) 0) (place 32 n) ∙ rw (e, eq-eqb (n / 10) 0 (omega (arith, eqb-true n 0 e)))
later_fits false n e = fits_r (eqb (n / 10) 0) (place 32 n) ∙ rw (e, is_digit_lem (n % 10) (omega arith))

-- the classes of w digits, and of the w leading places of a right-set number
unfoldable pub alls : ℕ → List ℕ
alls zero = []
alls (suc w) = alls w ++ bytes "D"

unfoldable pub leads : ℕ → List ℕ
leads zero = []
leads (suc zero) = bytes "R"
leads (suc (suc w)) = leads (suc w) ++ bytes "r"

pub digits_keep : (w n : ℕ) → Field (alls w) (digits w n)
unfolding alls lead
digits_keep zero n = none
digits_keep (suc w) n = digits_keep w (n / 10) ⊳ one (λ a. fits_D a (place 48 n) ∙ is_place n)

pub number_keeps : (n : ℕ) → n < 340000 → Field (bytes "N" ++ alls 4) (number_places n)
number_keeps n h =
    one (λ a. fits_N a (get_or first_places (n / 10 ^ 4) 0) ∙ place_opens (n / 10 ^ 4) (omega arith)) ⊳ digits_keep 4 (n % 10 ^ 4)

leads_keep : (w n : ℕ) → Field (leads w) (lead 32 w n)
unfolding leads lead
leads_keep zero n a = end
leads_keep (suc zero) n a = first_fits (eqb n 0) n a refl then end
leads_keep (suc (suc w)) n a =
    append (leads_keep (suc w) (n / 10) a)
    (rw (blank_end_snoc a (lead 32 w (n / 10 / 10)) (place 32 (n / 10)), blank_place (eqb (n / 10) 0) (n / 10) refl) (later_fits (eqb n 0) n refl) then end)

pub right_keep : (w n : ℕ) → Field (leads w ++ alls 1) (right w n)
right_keep w n = leads_keep w (n / 10) ⊳ digits_keep 1 (n % 10)

pub pointed_keep : (w p n : ℕ) → Field (leads w ++ alls 1 ++ bytes "." ++ alls p) (pointed w p n)
pointed_keep w p n = (right_keep w (n / 10 ^ p) ⊳ point) ⊳ digits_keep p (n % 10 ^ p)

pub day_keeps : (n : ℕ) → Field (alls 3 ++ bytes "." ++ alls 8) (day_places n)
day_keeps n = (digits_keep 3 (n / 10 ^ 8) ⊳ point) ⊳ digits_keep 8 (n % 10 ^ 8)

-- the signs
fits_sign : (z : ℤ) (a : Bool) → fits 83 a (sign z) ≡ true
unfolding sign
fits_sign (pos n) a = refl
fits_sign (negsuc n) a = refl

fits_exponent_sign : (z : ℤ) (a : Bool) → fits 69 a (exponent_sign z) ≡ true
unfolding exponent_sign
fits_exponent_sign (pos zero) a = refl
fits_exponent_sign (pos (suc n)) a = refl
fits_exponent_sign (negsuc n) a = refl

pub fraction_keeps : (z : ℤ) → Field (bytes "S" ++ bytes "." ++ alls 8) (fraction z)
fraction_keeps z = (one (fits_sign z) ⊳ point) ⊳ digits_keep 8 (nat_abs z)

pub scaled_keeps : (s : Scaled) → Field (bytes "S" ++ alls 5 ++ bytes "E" ++ alls 1) (scaled s)
scaled_keeps s =
    ((one (fits_sign s.mantissa) ⊳ digits_keep 5 (nat_abs s.mantissa)) ⊳ one (fits_exponent_sign s.exponent))
    ⊳ digits_keep 1 (nat_abs s.exponent)

-- the class
fits_letter : (c : Class) (a : Bool) → fits 67 a (letter c) ≡ true
unfolding letter
fits_letter Unclassified a = refl
fits_letter Classified a = refl
fits_letter Secret a = refl

pub letter_keeps : (c : Class) → Field (bytes "C") (letter c ∷ [])
letter_keeps c = one (fits_letter c)

-- the designator: five digits, a letter, and letters or blanks
first_digit : (n : ℕ) (a : Bool) → fits 82 a (place 48 n) ≡ true
first_digit n a = fits_R a (place 48 n) ∙ rw (is_place n) (or-true (is_blank (place 48 n)))

next_digit : (m n : ℕ) → fits 102 (is_blank (place 48 m)) (place 48 n) ≡ true
next_digit m n = rw (not_blank m) (fits_f (place 48 n) ∙ is_place n)

letter_fits : (n a : ℕ) → is_letter a ≡ true → fits 76 (is_blank (place 48 n)) a ≡ true
letter_fits n a l = rw (not_blank n) (fits_L a ∙ l)

letter_no_blank : (b : ℕ) → is_letter b ≡ true → is_blank b ≡ false
letter_no_blank b h = ne_eqb b 32 (λ e. omega (arith, leb-true 65 b (both (leb 65 b) (leb b 90) h).0))

second_fits : (a b : ℕ) → is_letter a ≡ true → is_letter b || is_blank b ≡ true → fits 108 (is_blank a) b ≡ true
second_fits a b h g = rw (letter_no_blank a h) (fits_l false b ∙ or_comm (is_blank b) (is_letter b) ∙ g)

third_fits : (t : Bool) (b c : ℕ) → is_blank c ≡ t → is_letter c && is_letter b || is_blank c ≡ true → fits 108 (is_blank b) c ≡ true
third_fits true b c e h = fits_l (is_blank b) c ∙ rw e
third_fits false b c e h =
    let l = both (is_letter c) (is_letter b) (sym (or-false (is_letter c && is_letter b)) ∙ (rw e at h)) in
    fits_l (is_blank b) c ∙ rw (e, letter_no_blank b l.1, l.0)

pub designator_keeps : (d : Designator) → designator_fits d ≡ true → Field (bytes "RffffLll") (designator d)
unfolding designator designator_fits lead
designator_keeps Blank h a = refl then refl then refl then refl then refl then refl then refl then refl then end
designator_keeps (Piece n a b c) h t =
    let p = both (ltb n 100000 && is_letter a && (is_letter b || is_blank b)) (is_letter c && is_letter b || is_blank c) h in
    let q = both (ltb n 100000 && is_letter a) (is_letter b || is_blank b) p.0 in
    let l = (both (ltb n 100000) (is_letter a) q.0).1 in
    first_digit (n / 10 / 10 / 10 / 10) t
    then next_digit (n / 10 / 10 / 10 / 10) (n / 10 / 10 / 10)
    then next_digit (n / 10 / 10 / 10) (n / 10 / 10)
    then next_digit (n / 10 / 10) (n / 10)
    then next_digit (n / 10) n
    then letter_fits n a l
    then second_fits a b l q.1
    then third_fits (is_blank c) b c refl p.1
    then end
