-- How long a listing can be.
use Prim.Native.Nat.{ℕ, zero, suc, ◌+◌, ◌*◌, ◌/◌, ◌%◌, ◌^◌, ◌<◌, ◌≤◌}
use mathlib.Core.Path.{◌≡◌, refl, ap, sym, ◌∙◌}
use mathlib.Core.Bool.{Bool, true, false, cond}
use mathlib.Core.List.{List, [], ◌∷◌, ◌++◌, append_assoc}
use native.Mathlib.Omega.{arith}
use native.Mathlib.Nat.{pow-suc}
use borrow.Author.Tests.{ltb-false}
use lib.Dec.{eqb, ltb}
use lib.IntN.{ℤ, pos, negsuc, nat_abs, sub_ℕ, ◌-ℤ◌}
use lib.ListN.{length, length-append}
use Rattle.text.specs.Output.{bytes, spell, decimal, signed}
use Rattle.tle.specs.Legal.{legal, scaled_fits}
use Rattle.tle.specs.declared.Scaled.{Scaled}
use Rattle.tle.specs.declared.Record.{Record}
use Rattle.tle_writer.proofs.Facts.{facts}
use Rattle.listing.specs.Listing.{then, designator_text, scaled_text}
use Rattle.listing.proofs.Lengths.{designator_within}
use Rattle.roster.specs.Records.{Rising, end, next, instant_of}
use Rattle.roster.specs.Roster.{pair_bytes}
use Rattle.roster.proofs.Pairs.{length_pair}
use Rattle.changes.specs.Entry.{Count, Ephemeris, Element, Inclination, Node, Eccentricity, Perigee, Anomaly, Motion, Revolution, Entry, Classes, Designators, Epochs, Ndots, Nddots, Bstars, Counts, sameℤ, same_class, same_designator, same_scaled, unless, differences}
use Rattle.changes.specs.Changes.{Change, First, Second, Field, fields, seconds, against, listed}
use Rattle.changes.specs.Claims.{digits, Bounded}
use Rattle.changes.proofs.Bounds.{Every, scaled_small, differences_bounded}
use Rattle.changes_text.specs.Text.{label, values, body, spelled}
use Rattle.changes_text.specs.Claims.{ListingsFit}

-- ── numbers ──

-- at most k digits of a number below 10 ^ k
spell_within : (w k n : ℕ) → n < 10 ^ suc k → length (spell w n) ≤ suc k
unfolding spell
spell_within zero k n h = omega arith
spell_within (suc w) k n h = by (ltb n 10) refl (λ j e. spell_within w j (n / 10) e)
  where
    more : (k : ℕ) → n < 10 ^ suc k → 10 ≤ n → ((j : ℕ) → n / 10 < 10 ^ suc j → length (spell w (n / 10)) ≤ suc j) → length (spell w (n / 10)) + 1 ≤ suc k
    more zero g m f = absurd (omega arith)
    more (suc k) g m f =
        let p : n < 10 * 10 ^ suc k = omega (arith, rw pow-suc at g) in
        omega (arith, f k (omega arith))

    by : (t : Bool) → ltb n 10 ≡ t → ((j : ℕ) → n / 10 < 10 ^ suc j → length (spell w (n / 10)) ≤ suc j)
        → length (cond t ((48 + n) ∷ []) (spell w (n / 10) ++ ((48 + n % 10) ∷ []))) ≤ suc k
    by true e f = omega arith
    by false e f = omega (arith, length-append (spell w (n / 10)) ((48 + n % 10) ∷ []), more k h (ltb-false n 10 e) f)

signed_digits : (k : ℕ) (z : ℤ) → nat_abs z < 10 ^ suc k → length (signed z) ≤ suc (suc k)
unfolding signed
signed_digits k (pos n) h = omega (arith, spell_within 20 k n h)
signed_digits k (negsuc n) h = omega (arith, spell_within 20 k (suc n) h)

number_digits : (n : ℕ) → n < 340000 → length (decimal n) ≤ 6
number_digits n h = spell_within 20 5 n (omega arith)

scaled_within : (s : Scaled) → scaled_fits s ≡ true → length (scaled_text s) ≤ 9
unfolding scaled_text
scaled_within s h =
    let f = scaled_small s h in
    omega (arith, length-append (signed s.mantissa) (32 ∷ signed s.exponent), signed_digits 4 s.mantissa f.0, signed_digits 0 s.exponent f.1)

-- ── lines ──

two_within : (u v : List ℕ) (k : ℕ) → length u ≤ k → length v ≤ k → length (then u v) ≤ k + k + 1
two_within u v k h g = omega (arith, length-append u (32 ∷ v))

-- the longest values that a field can show
abbrev most_values : Entry → ℕ
most_values (Classes x y) = 3
most_values (Designators x y) = 17
most_values (Epochs d) = 17
most_values (Ndots d) = 10
most_values (Nddots x y) = 19
most_values (Bstars x y) = 19
most_values (Counts c d) = digits c + 1

count_within : (c : Count) (d : ℤ) → nat_abs d < 10 ^ digits c → length (signed d) ≤ digits c + 1
count_within Ephemeris d h = signed_digits 0 d h
count_within Element d h = signed_digits 3 d h
count_within Inclination d h = signed_digits 6 d h
count_within Node d h = signed_digits 6 d h
count_within Eccentricity d h = signed_digits 6 d h
count_within Perigee d h = signed_digits 6 d h
count_within Anomaly d h = signed_digits 6 d h
count_within Motion d h = signed_digits 9 d h
count_within Revolution d h = signed_digits 4 d h

values_within : (e : Entry) → Bounded e → length (values e) ≤ most_values e
values_within (Classes x y) h = omega arith
values_within (Designators x y) h = two_within (designator_text x) (designator_text y) 8 (designator_within x).at_most (designator_within y).at_most
values_within (Epochs d) h = signed_digits 15 d h
values_within (Ndots d) h = signed_digits 8 d h
values_within (Nddots x y) h = two_within (scaled_text x) (scaled_text y) 9 (scaled_within x h.0) (scaled_within y h.1)
values_within (Bstars x y) h = two_within (scaled_text x) (scaled_text y) 9 (scaled_within x h.0) (scaled_within y h.1)
values_within (Counts c d) h = count_within c d h

body_within : (n : ℕ) (e : Entry) → n < 340000 → Bounded e → length (body (Field n e)) ≤ 8 + length (label e) + most_values e
body_within n e h g =
    omega (arith, length-append (decimal n) (32 ∷ (label e ++ (32 ∷ values e))), length-append (label e) (32 ∷ values e), number_digits n h, values_within e g)

-- ── two records: at most 382 bytes ──

module _ (n : ℕ) (number : n < 340000) where
  -- m: the most that the other fields take
  one : (t : Bool) (e : Entry) (es : List Entry) (m : ℕ) → (Every es → length (spelled (fields n es)) ≤ m) → Every (unless t e ++ es)
      → length (spelled (fields n (unless t e ++ es))) ≤ 9 + length (label e) + most_values e + m
  unfolding spelled fields
  one true e es m h g = omega (arith, h g)
  one false e es m h g = omega (arith, length-append (body (Field n e)) (10 ∷ spelled (fields n es)), body_within n e number g.0, h g.1)

  none : Every [] → length (spelled (fields n [])) ≤ 0
  unfolding spelled fields
  none h = omega arith

  pub differ : (a b : Record) → Every (differences a b) → length (spelled (fields n (differences a b))) ≤ 382
  unfolding differences
  differ a b =
      one (same_class a.class b.class) (Classes a.class b.class) _ 365
      (one (same_designator a.designator b.designator) (Designators a.designator b.designator) _ 329
      (one (eqb (instant_of a) (instant_of b)) (Epochs (sub_ℕ (instant_of b) (instant_of a))) _ 298
      (one (sameℤ a.ndot b.ndot) (Ndots (b.ndot -ℤ a.ndot)) _ 275
      (one (same_scaled a.nddot b.nddot) (Nddots a.nddot b.nddot) _ 242
      (one (same_scaled a.bstar b.bstar) (Bstars a.bstar b.bstar) _ 209
      (one (eqb a.ephemeris b.ephemeris) (Counts Ephemeris (sub_ℕ b.ephemeris a.ephemeris)) _ 194
      (one (eqb a.element b.element) (Counts Element (sub_ℕ b.element a.element)) _ 177
      (one (eqb a.inclination b.inclination) (Counts Inclination (sub_ℕ b.inclination a.inclination)) _ 149
      (one (eqb a.node b.node) (Counts Node (sub_ℕ b.node a.node)) _ 128
      (one (eqb a.eccentricity b.eccentricity) (Counts Eccentricity (sub_ℕ b.eccentricity a.eccentricity)) _ 99
      (one (eqb a.perigee b.perigee) (Counts Perigee (sub_ℕ b.perigee a.perigee)) _ 75
      (one (eqb a.anomaly b.anomaly) (Counts Anomaly (sub_ℕ b.anomaly a.anomaly)) _ 51
      (one (eqb a.motion b.motion) (Counts Motion (sub_ℕ b.motion a.motion)) _ 25
      (one (eqb a.revolution b.revolution) (Counts Revolution (sub_ℕ b.revolution a.revolution)) [] 0 none))))))))))))))

-- ── two rosters: 191 bytes a record of either ──

pub spelled_append : (cs ds : List Change) → spelled (cs ++ ds) ≡ spelled cs ++ spelled ds
unfolding spelled
spelled_append [] ds = refl
spelled_append (c ∷ cs) ds =
    ap (λ (t : List ℕ). body c ++ (10 ∷ t)) (spelled_append cs ds) ∙ sym (append_assoc (body c) (10 ∷ spelled cs) (spelled ds))

single : (w c : List ℕ) (s : List ℕ) → length w ≤ 6 → length c ≡ 138 → length (then w c ++ 10 ∷ s) ≤ 146 + length s
single w c s h g = omega (arith, length-append (then w c) (10 ∷ s), length-append w (32 ∷ c))

first_within : (a : Record) (cs : List Change) → length (spelled (First a ∷ cs)) ≤ 146 + length (spelled cs)
unfolding spelled
first_within a cs = single (bytes "first") (pair_bytes a) (spelled cs) (omega arith) (length_pair a)

second_within : (b : Record) (cs : List Change) → length (spelled (Second b ∷ cs)) ≤ 146 + length (spelled cs)
unfolding spelled
second_within b cs = single (bytes "second") (pair_bytes b) (spelled cs) (omega arith) (length_pair b)

none_within : length (spelled []) ≤ 0
unfolding spelled
none_within = omega arith

seconds_within : (bs : List Record) → length (spelled (seconds bs)) ≤ 191 * length bs
unfolding seconds
seconds_within [] = none_within
seconds_within (b ∷ bs) = omega (arith, second_within b (seconds bs), seconds_within bs)

three : (x y : Bool) (cs ds es : List Change) (m : ℕ) → length (spelled cs) ≤ m → length (spelled ds) ≤ m → length (spelled es) ≤ m
    → length (spelled (cond x cs (cond y ds es))) ≤ m
three true y cs ds es m h g f = h
three false true cs ds es m h g f = g
three false false cs ds es m h g f = f

-- rest: so long against every list by rising number
against_within : (a : Record) (rest : List Record → List Change) (m : ℕ) → legal a ≡ true
    → ((low : ℕ) (l : List Record) → Rising low l → length (spelled (rest l)) ≤ 191 * (m + length l))
    → {low : ℕ} {bs : List Record} → Rising low bs → length (spelled (against a rest bs)) ≤ 191 * (m + 1 + length bs)
unfolding against
against_within a rest m h f end = omega (arith, first_within a (rest []), f 0 [] end)
against_within a rest m h f {low} (next {r = b} {rs = bs} g l q) =
    let A = facts a h in
    three (ltb b.number a.number) (eqb b.number a.number) (Second b ∷ against a rest bs) (fields a.number (differences a b) ++ rest bs) (First a ∷ rest (b ∷ bs))
    (191 * (m + 1 + length (b ∷ bs)))
    (omega (arith, second_within b (against a rest bs), against_within a rest m h f q))
    (omega (
      arith,
      ap length (spelled_append (fields a.number (differences a b)) (rest bs)),
      length-append (spelled (fields a.number (differences a b))) (spelled (rest bs)),
      differ a.number A.number a b (differences_bounded a b A (facts b l)),
      f (b.number + 1) bs q,
    ))
    (omega (arith, first_within a (rest (b ∷ bs)), f low (b ∷ bs) (next g l q)))

listed_within : {low : ℕ} {xs : List Record} → Rising low xs → (m : ℕ) (bs : List Record) → Rising m bs → length (spelled (listed xs bs)) ≤ 191 * (length xs + length bs)
unfolding listed
listed_within end m bs q = omega (arith, seconds_within bs)
listed_within (next {r = a} {rs = xs} g l p) m bs q =
    omega (arith, against_within a (λ l. listed xs l) (length xs) l (λ low l k. listed_within p low l k) q)

pub listings_fit : ListingsFit
listings_fit xs bs p q h g = omega (arith, listed_within p 0 bs q)
