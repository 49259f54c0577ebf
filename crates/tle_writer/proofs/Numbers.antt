-- Catalogue numbers and their five places: each undoes the other.
use Prim.Native.Nat.{ℕ, ◌+◌, ◌*◌, ◌/◌, ◌%◌, ◌<◌, ◌≤◌, ◌^◌}
use mathlib.Core.Path.{◌≡◌, refl, ap, sym, ◌∙◌}
use mathlib.Core.List.{List, [], ◌∷◌}
use mathlib.Core.Bool.{Bool, true, false}
use native.Mathlib.Omega.{arith}
use borrow.Author.Tests.{eqb-true, leb-true}
use lib.Dec.{eqb, leb}
use lib.ListN.{get_or}
use Rattle.text.specs.Output.{bytes}
use Rattle.columns.specs.Layout.{is_blank, is_digit, opens_number, agreed}
use Rattle.columns.specs.Sum.{digit_of}
use Rattle.tle.specs.Number.{value_on}
use Rattle.columns.specs.FirstPlace.{first_places, first_of}
use Rattle.tle.specs.Catalogue.{catalogue_of}
use Rattle.tle.proofs.Steps.{value_after}
use Rattle.columns.proofs.FirstPlaces.{first_back, place_back}
use Rattle.tle.proofs.Designators.{Fits, column}
use Rattle.tle.proofs.FirstPlaces.{fits_N}
use Rattle.tle_writer.specs.Field.{place, lead, digits, number_places}
use Rattle.tle_writer.specs.Claims.{NumbersReadBack, PlacesWrittenBack}
use Rattle.tle_writer.proofs.Facts.{both}
use Rattle.tle_writer.proofs.Keeps.{fits_D}
use Rattle.tle_writer.proofs.Overs.{length_lead}
use Rattle.tle_writer.proofs.Values.{digits_value}

pub numbers_read_back : NumbersReadBack
unfolding catalogue_of
numbers_read_back n h =
    let k = n / 10 ^ 4 in
    let m = n % 10 ^ 4 in
    value_after (first_of (get_or first_places k 0)) (digits 4 m)
    ∙ rw (length_lead 48 4 m, first_back k (omega arith), digits_value 4 m (omega arith)) (omega arith)

-- the place of a digit, a leading zero too
digit_place : (t : Bool) (n : ℕ) → eqb n 0 ≡ t → place 48 n ≡ 48 + n % 10
unfolding place
digit_place true n e = rw e (omega (arith, eqb-true n 0 e))
digit_place false n e = rw e

-- a digit is 48 and what it shows
shown : (b : ℕ) → is_digit b ≡ true → (48 + digit_of b ≡ b) × (digit_of b ≤ 9)
unfolding digit_of
shown b h =
    let t = both (leb 48 b) (leb b 57) h in
    rw h (omega (arith, leb-true 48 b t.0), omega (arith, leb-true b 57 t.1))

place_shows : (n b : ℕ) → is_digit b ≡ true → n % 10 ≡ digit_of b → place 48 n ≡ b
place_shows n b h e = digit_place (eqb n 0) n refl ∙ rw e (shown b h).0

module _ (b c d e : ℕ) (hb : is_digit b ≡ true) (hc : is_digit c ≡ true) (hd : is_digit d ≡ true) (he : is_digit e ≡ true) where
  four_below : value_on 0 (b ∷ c ∷ d ∷ e ∷ []) < 10 ^ 4
  unfolding value_on
  four_below = omega (arith, (shown b hb).1, (shown c hc).1, (shown d hd).1, (shown e he).1)

  four_back : digits 4 (value_on 0 (b ∷ c ∷ d ∷ e ∷ [])) ≡ b ∷ c ∷ d ∷ e ∷ []
  unfolding lead value_on
  four_back =
      let v = (((0 * 10 + digit_of b) * 10 + digit_of c) * 10 + digit_of d) * 10 + digit_of e in
      let pb = place_shows (v / 10 / 10 / 10) b hb (omega (arith, (shown b hb).1, (shown c hc).1, (shown d hd).1, (shown e he).1)) in
      let pc = place_shows (v / 10 / 10) c hc (omega (arith, (shown c hc).1, (shown d hd).1, (shown e he).1)) in
      let pd = place_shows (v / 10) d hd (omega (arith, (shown d hd).1, (shown e he).1)) in
      let pe = place_shows v e he (omega (arith, (shown e he).1)) in
      λ i. pb i ∷ pc i ∷ pd i ∷ pe i ∷ []

module _ (a b c d e : ℕ) (h : agreed (bytes "NDDDD") true (a ∷ b ∷ c ∷ d ∷ e ∷ []) ≡ 5) where
  fitting : (i : ℕ) → i < 5 → Fits (bytes "NDDDD") true (a ∷ b ∷ c ∷ d ∷ e ∷ []) i
  fitting i k = column (bytes "NDDDD") true (a ∷ b ∷ c ∷ d ∷ e ∷ []) h i k

  five_back : number_places (catalogue_of (a ∷ b ∷ c ∷ d ∷ e ∷ [])) ≡ a ∷ b ∷ c ∷ d ∷ e ∷ []
  unfolding catalogue_of
  five_back =
      let oa : opens_number a ≡ true = sym (fits_N true a) ∙ fitting 0 (omega arith) in
      let hb : is_digit b ≡ true = sym (fits_D (is_blank a) b) ∙ fitting 1 (omega arith) in
      let hc : is_digit c ≡ true = sym (fits_D (is_blank b) c) ∙ fitting 2 (omega arith) in
      let hd : is_digit d ≡ true = sym (fits_D (is_blank c) d) ∙ fitting 3 (omega arith) in
      let he : is_digit e ≡ true = sym (fits_D (is_blank d) e) ∙ fitting 4 (omega arith) in
      let bs : List ℕ = b ∷ c ∷ d ∷ e ∷ [] in
      let n = value_after (first_of a) bs in
      let v = four_below b c d e hb hc hd he in
      let front : value_on (first_of a) bs / 10 ^ 4 ≡ first_of a = omega arith in
      let rest : value_on (first_of a) bs % 10 ^ 4 ≡ value_on 0 bs = omega arith in
      let pa = ap (λ (k : ℕ). get_or first_places k 0) front ∙ place_back a oa in
      let ps = ap (digits 4) rest ∙ four_back b c d e hb hc hd he in
      λ i. pa i ∷ ps i

pub places_written_back : PlacesWrittenBack
places_written_back [] l = absurd (omega (arith, l.0))
places_written_back (a ∷ []) l = absurd (omega (arith, l.0))
places_written_back (a ∷ b ∷ []) l = absurd (omega (arith, l.0))
places_written_back (a ∷ b ∷ c ∷ []) l = absurd (omega (arith, l.0))
places_written_back (a ∷ b ∷ c ∷ d ∷ []) l = absurd (omega (arith, l.0))
places_written_back (a ∷ b ∷ c ∷ d ∷ e ∷ []) l = five_back a b c d e l.1
places_written_back (a ∷ b ∷ c ∷ d ∷ e ∷ f ∷ s) l = absurd (omega (arith, l.0))
