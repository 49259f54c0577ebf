-- The listing's text tells the changes, and so, with the first roster, the second.
use Prim.Native.Nat.{ℕ, ◌^◌, ◌<◌, ◌≤◌}
use mathlib.Core.Path.{◌≡◌, refl, ap, sym, ◌∙◌}
use mathlib.Core.Bool.{Bool, true, false, cond, ◌&&◌, ◌||◌}
use mathlib.Core.List.{List, [], ◌∷◌, ◌++◌, append_assoc}
use native.Mathlib.Omega.{arith}
use borrow.Author.Tests.{ltb-true, leb-true}
use lib.Dec.{ltb, leb}
use lib.IntN.{ℤ, nat_abs}
use lib.ListN.{take, drop, get_or}
use lib.Seq.{take_at, drop_at}
use Rattle.text.specs.Output.{bytes, decimal, signed}
use Rattle.columns.specs.Layout.{is_letter, is_blank}
use Rattle.tle.specs.Legal.{legal, designator_fits, scaled_fits}
use Rattle.tle.specs.declared.Designator.{Designator}
use Rattle.tle.specs.declared.Designator.TheVariants.{Blank, Piece}
use Rattle.tle.specs.declared.Scaled.{Scaled}
use Rattle.tle.specs.declared.Record.{Record}
use Rattle.tle.specs.Read.{letter}
use Rattle.listing.specs.Listing.{then, designator_text, scaled_text}
use Rattle.roster.specs.Records.{Rising}
use Rattle.roster.specs.Roster.{pair_bytes, bytes_of, same, place_of}
use Rattle.roster.proofs.Decode.{roster_sound}
use Rattle.std.specs.Prelude.{Some}
use Rattle.tle_writer.proofs.Facts.{both}
use Rattle.roster.proofs.Pairs.{length_pair, place_back}
use Rattle.changes.specs.Entry.{Count, Ephemeris, Element, Inclination, Node, Eccentricity, Perigee, Anomaly, Motion, Revolution, Entry, Classes, Designators, Epochs, Ndots, Nddots, Bstars, Counts}
use Rattle.changes.specs.Changes.{Change, First, Second, Field, listed, applied}
use Rattle.changes_text.specs.Text.{label, values, body, spelled}
use Rattle.changes_text.specs.Claims.{TextTells, ListingTells}
use Rattle.changes_text.proofs.Words.{Over, Below, over_append, over_less, over_by, split, word_of, behind, word_is, behind_is, worth, decimal_worth, spell_over, spell_below, unsigned, signed_back, signed_over, unscaled, Small, unlettered, letter_back, letter_over, undesignated, Fit, piece_back, piece_over, blank_back, blank_over, scaled_back, last_two, first_two, last_is, first_is}
use Rattle.changes.specs.Claims.{digits, Bounded, BoundedChange, AllBounded}
use Rattle.changes.proofs.Bounds.{scaled_small, listed_are_bounded}
use Rattle.changes.proofs.Merge.{applied_is_second}

-- ── an entry back from its label and its values ──

decode : List ℕ → List ℕ → Entry
decode l v =
    cond (same l (bytes "class")) (Classes (unlettered (get_or v 0 0)) (unlettered (get_or v 2 0)))
    (cond (same l (bytes "designator")) (Designators (undesignated (word_of v)) (undesignated (behind v)))
    (cond (same l (bytes "epoch")) (Epochs (unsigned v))
    (cond (same l (bytes "ndot")) (Ndots (unsigned v))
    (cond (same l (bytes "nddot")) (Nddots (unscaled (first_two v)) (unscaled (last_two v)))
    (cond (same l (bytes "bstar")) (Bstars (unscaled (first_two v)) (unscaled (last_two v)))
    (cond (same l (bytes "type")) (Counts Ephemeris (unsigned v))
    (cond (same l (bytes "set")) (Counts Element (unsigned v))
    (cond (same l (bytes "inclination")) (Counts Inclination (unsigned v))
    (cond (same l (bytes "node")) (Counts Node (unsigned v))
    (cond (same l (bytes "eccentricity")) (Counts Eccentricity (unsigned v))
    (cond (same l (bytes "perigee")) (Counts Perigee (unsigned v))
    (cond (same l (bytes "anomaly")) (Counts Anomaly (unsigned v))
    (cond (same l (bytes "motion")) (Counts Motion (unsigned v))
    (Counts Revolution (unsigned v)))))))))))))))

or_left : (x y : Bool) → x || y ≡ true → y ≡ false → x ≡ true
or_left true y h e = refl
or_left false y h e = cc

letter_high : (b : ℕ) → is_letter b ≡ true → 65 ≤ b
letter_high b h = leb-true 65 b (both (leb 65 b) (leb b 90) h).0

fit : (l a b c : ℕ) → designator_fits (Piece l a b c) ≡ true → Fit l a b c
unfolding designator_fits
fit l a b c h =
    let p = both (ltb l 100000 && is_letter a && (is_letter b || is_blank b)) (is_letter c && is_letter b || is_blank c) h in
    let q = both (ltb l 100000 && is_letter a) (is_letter b || is_blank b) p.0 in
    let k = both (ltb l 100000) (is_letter a) q.0 in
    record {
      launch = ltb-true l 100000 k.0;
      letter = letter_high a k.1;
      second = λ e. letter_high b (or_left (is_letter b) (is_blank b) q.1 e);
      third = λ e. (let t = both (is_letter c) (is_letter b) (or_left (is_letter c && is_letter b) (is_blank c) p.1 e) in (letter_high c t.0, letter_high b t.1));
    }

designator_back : (d : Designator) → designator_fits d ≡ true → undesignated (designator_text d) ≡ d
designator_back Blank h = blank_back
designator_back (Piece l a b c) h = piece_back l a b c (fit l a b c h)

designator_over : (d : Designator) → designator_fits d ≡ true → Over 32 (designator_text d)
designator_over Blank h = blank_over
designator_over (Piece l a b c) h = piece_over l a b c (fit l a b c h)

small : (s : Scaled) → scaled_fits s ≡ true → Small s
small s h =
    let f = scaled_small s h in
    record { mantissa = omega (arith, f.0); exponent = omega (arith, f.1) }

count_back : (c : Count) (d : ℤ) → nat_abs d < 10 ^ digits c → decode (label (Counts c d)) (signed d) ≡ Counts c d
unfolding decode same
count_back Ephemeris d h = ap (Counts Ephemeris) (signed_back d (omega arith))
count_back Element d h = ap (Counts Element) (signed_back d (omega arith))
count_back Inclination d h = ap (Counts Inclination) (signed_back d (omega arith))
count_back Node d h = ap (Counts Node) (signed_back d (omega arith))
count_back Eccentricity d h = ap (Counts Eccentricity) (signed_back d (omega arith))
count_back Perigee d h = ap (Counts Perigee) (signed_back d (omega arith))
count_back Anomaly d h = ap (Counts Anomaly) (signed_back d (omega arith))
count_back Motion d h = ap (Counts Motion) (signed_back d (omega arith))
count_back Revolution d h = ap (Counts Revolution) (signed_back d (omega arith))

entry_back : (e : Entry) → Bounded e → decode (label e) (values e) ≡ e
unfolding decode same
entry_back (Classes x y) h = rw (letter_back x, letter_back y)
entry_back (Designators x y) h =
    let o = designator_over x h.0 in
    rw (word_is (designator_text x) (designator_text y) o, behind_is (designator_text x) (designator_text y) o, designator_back x h.0, designator_back y h.1)
entry_back (Epochs d) h = ap Epochs (signed_back d (omega arith))
entry_back (Ndots d) h = ap Ndots (signed_back d (omega arith))
entry_back (Nddots x y) h = rw (first_is x y, last_is x y, scaled_back x (small x h.0), scaled_back y (small y h.1))
entry_back (Bstars x y) h = rw (first_is x y, last_is x y, scaled_back x (small x h.0), scaled_back y (small y h.1))
entry_back (Counts c d) h = count_back c d h

count_over : (c : Count) (d : ℤ) → Over 32 (label (Counts c d))
count_over Ephemeris d = over_by 32 (bytes "type") refl
count_over Element d = over_by 32 (bytes "set") refl
count_over Inclination d = over_by 32 (bytes "inclination") refl
count_over Node d = over_by 32 (bytes "node") refl
count_over Eccentricity d = over_by 32 (bytes "eccentricity") refl
count_over Perigee d = over_by 32 (bytes "perigee") refl
count_over Anomaly d = over_by 32 (bytes "anomaly") refl
count_over Motion d = over_by 32 (bytes "motion") refl
count_over Revolution d = over_by 32 (bytes "revolution") refl

label_over : (e : Entry) → Over 32 (label e)
label_over (Classes x y) = over_by 32 (bytes "class") refl
label_over (Designators x y) = over_by 32 (bytes "designator") refl
label_over (Epochs d) = over_by 32 (bytes "epoch") refl
label_over (Ndots d) = over_by 32 (bytes "ndot") refl
label_over (Nddots x y) = over_by 32 (bytes "nddot") refl
label_over (Bstars x y) = over_by 32 (bytes "bstar") refl
label_over (Counts c d) = count_over c d

-- no newline in a value
then_over : (u v : List ℕ) → Over 10 u → Over 10 v → Over 10 (then u v)
then_over u v h g = over_append 10 u (32 ∷ v) h (omega arith, g)

scaled_over : (s : Scaled) → Over 10 (scaled_text s)
unfolding scaled_text
scaled_over s =
    then_over (signed s.mantissa) (signed s.exponent)
    (over_less 10 44 (signed s.mantissa) (omega arith) (signed_over s.mantissa)) (over_less 10 44 (signed s.exponent) (omega arith) (signed_over s.exponent))

number_over : (d : ℤ) → Over 10 (signed d)
number_over d = over_less 10 44 (signed d) (omega arith) (signed_over d)

values_over : (e : Entry) → Bounded e → Over 10 (values e)
values_over (Classes x y) h =
    then_over (letter x ∷ []) (letter y ∷ []) (over_less 10 32 (letter x ∷ []) (omega arith) (letter_over x)) (over_less 10 32 (letter y ∷ []) (omega arith) (letter_over y))
values_over (Designators x y) h =
    then_over (designator_text x) (designator_text y) (over_less 10 32 (designator_text x) (omega arith) (designator_over x h.0)) (over_less 10 32 (designator_text y) (omega arith) (designator_over y h.1))
values_over (Epochs d) h = number_over d
values_over (Ndots d) h = number_over d
values_over (Nddots x y) h = then_over (scaled_text x) (scaled_text y) (scaled_over x) (scaled_over y)
values_over (Bstars x y) h = then_over (scaled_text x) (scaled_text y) (scaled_over x) (scaled_over y)
values_over (Counts c d) h = number_over d

-- ── a line tells its change ──

abbrev Told : Change → Change → List ℕ → List ℕ → Type 0
Told c d s t = (c ≡ d) × (s ≡ t)

pair_told : (r q : Record) (s t : List ℕ) → legal r ≡ true → legal q ≡ true → pair_bytes r ++ 10 ∷ s ≡ pair_bytes q ++ 10 ∷ t → (r ≡ q) × (s ≡ t)
pair_told r q s t h g e =
    let a : pair_bytes r ≡ pair_bytes q = sym (take_at (pair_bytes r) (10 ∷ s) 138 (length_pair r)) ∙ ap (take 138) e ∙ take_at (pair_bytes q) (10 ∷ t) 138 (length_pair q) in
    let b : 10 ∷ s ≡ 10 ∷ t = sym (drop_at (pair_bytes r) (10 ∷ s) 138 (length_pair r)) ∙ ap (drop 138) e ∙ drop_at (pair_bytes q) (10 ∷ t) 138 (length_pair q) in
    let p : Some r ≡ Some q = sym (place_back r h) ∙ ap place_of a ∙ place_back q g in
    let m : r ≡ q = cc in
    let k : s ≡ t = cc in
    (m, k)

line_text_lem : (n : ℕ) (e : Entry) (s : List ℕ) → body (Field n e) ++ 10 ∷ s ≡ decimal n ++ 32 ∷ (label e ++ 32 ∷ (values e ++ 10 ∷ s))
line_text_lem n e s =
    append_assoc (decimal n) (32 ∷ (label e ++ 32 ∷ values e)) (10 ∷ s)
    ∙ ap (λ (t : List ℕ). decimal n ++ 32 ∷ t) (append_assoc (label e) (32 ∷ values e) (10 ∷ s))

number_dark : (n : ℕ) → Over 32 (decimal n)
number_dark n = over_less 32 47 (decimal n) (omega arith) (spell_over 20 n)

field_told : (n m : ℕ) (e f : Entry) (s t : List ℕ) → n < 340000 → m < 340000 → Bounded e → Bounded f
    → body (Field n e) ++ 10 ∷ s ≡ body (Field m f) ++ 10 ∷ t → Told (Field n e) (Field m f) s t
field_told n m e f s t h g x y q =
    let a = split 32 (decimal n) (decimal m) (label e ++ 32 ∷ (values e ++ 10 ∷ s)) (label f ++ 32 ∷ (values f ++ 10 ∷ t)) (number_dark n) (number_dark m) (sym (line_text_lem n e s) ∙ q ∙ line_text_lem m f t) in
    let b = split 32 (label e) (label f) (values e ++ 10 ∷ s) (values f ++ 10 ∷ t) (label_over e) (label_over f) a.1 in
    let c = split 10 (values e) (values f) s t (values_over e x) (values_over f y) b.1 in
    let i : n ≡ m = sym (decimal_worth n (omega arith)) ∙ ap (worth 0) a.0 ∙ decimal_worth m (omega arith) in
    let j : e ≡ f = sym (entry_back e x) ∙ ap (λ (l : List ℕ). decode l (values e)) b.0 ∙ ap (decode (label f)) c.0 ∙ entry_back f y in
    (ap (λ (k : ℕ). Field k e) i ∙ ap (Field m) j, c.1)

-- a number is no word
no_word : (n : ℕ) (w : List ℕ) (s t : List ℕ) → Over 32 w → (Below 58 w → ⊥) → decimal n ++ 32 ∷ s ≡ w ++ 32 ∷ t → ⊥
no_word n w s t h g e =
    let p = split 32 (decimal n) w s t (number_dark n) h e in
    g (rw p.0 at (spell_below 20 n))

not_first : (n : ℕ) (e : Entry) (r : Record) (s t : List ℕ) → body (Field n e) ++ 10 ∷ s ≡ body (First r) ++ 10 ∷ t → ⊥
not_first n e r s t q =
    no_word n (bytes "first") (label e ++ 32 ∷ (values e ++ 10 ∷ s)) (pair_bytes r ++ 10 ∷ t) (over_by 32 (bytes "first") refl) (λ b. let k = b.0 in omega arith) (sym (line_text_lem n e s) ∙ q)

not_second : (n : ℕ) (e : Entry) (r : Record) (s t : List ℕ) → body (Field n e) ++ 10 ∷ s ≡ body (Second r) ++ 10 ∷ t → ⊥
not_second n e r s t q =
    no_word n (bytes "second") (label e ++ 32 ∷ (values e ++ 10 ∷ s)) (pair_bytes r ++ 10 ∷ t) (over_by 32 (bytes "second") refl) (λ b. let k = b.0 in omega arith) (sym (line_text_lem n e s) ∙ q)

first_told : (r q : Record) (s t : List ℕ) → legal r ≡ true → legal q ≡ true → body (First r) ++ 10 ∷ s ≡ body (First q) ++ 10 ∷ t → Told (First r) (First q) s t
first_told r q s t h g e =
    let f : pair_bytes r ++ 10 ∷ s ≡ pair_bytes q ++ 10 ∷ t = ap (drop 6) e in
    let p = pair_told r q s t h g f in
    (ap First p.0, p.1)

second_told : (r q : Record) (s t : List ℕ) → legal r ≡ true → legal q ≡ true → body (Second r) ++ 10 ∷ s ≡ body (Second q) ++ 10 ∷ t → Told (Second r) (Second q) s t
second_told r q s t h g e =
    let f : pair_bytes r ++ 10 ∷ s ≡ pair_bytes q ++ 10 ∷ t = ap (drop 7) e in
    let p = pair_told r q s t h g f in
    (ap Second p.0, p.1)

apart : (r q : Record) (s t : List ℕ) → body (First r) ++ 10 ∷ s ≡ body (Second q) ++ 10 ∷ t → ⊥
apart r q s t e = let k : ◌≡◌ {A = ℕ} 102 115 = ap (λ (u : List ℕ). get_or u 0 0) e in omega arith

one_told : (c d : Change) (s t : List ℕ) → BoundedChange c → BoundedChange d → body c ++ 10 ∷ s ≡ body d ++ 10 ∷ t → Told c d s t
one_told (First r) (First q) s t h g e = first_told r q s t h g e
one_told (First r) (Second q) s t h g e = absurd (apart r q s t e)
one_told (First r) (Field m f) s t h g e = absurd (not_first m f r t s (sym e))
one_told (Second r) (First q) s t h g e = absurd (apart q r t s (sym e))
one_told (Second r) (Second q) s t h g e = second_told r q s t h g e
one_told (Second r) (Field m f) s t h g e = absurd (not_second m f r t s (sym e))
one_told (Field n x) (First q) s t h g e = absurd (not_first n x q s t e)
one_told (Field n x) (Second q) s t h g e = absurd (not_second n x q s t e)
one_told (Field n x) (Field m f) s t h g e = field_told n m x f s t h.0 g.0 h.1 g.1 e

not_empty : (u s : List ℕ) → u ++ 10 ∷ s ≡ [] → ⊥
not_empty [] s e = let z : ◌≡◌ {A = ℕ} 0 1 = cc in omega arith
not_empty (b ∷ u) s e = let z : ◌≡◌ {A = ℕ} 0 1 = cc in omega arith

pub told : (cs ds : List Change) → AllBounded cs → AllBounded ds → spelled cs ≡ spelled ds → cs ≡ ds
unfolding spelled
told [] [] h g e = refl
told [] (d ∷ ds) h g e = absurd (not_empty (body d) (spelled ds) (sym e))
told (c ∷ cs) [] h g e = absurd (not_empty (body c) (spelled cs) e)
told (c ∷ cs) (d ∷ ds) h g e =
    let p = one_told c d (spelled cs) (spelled ds) h.0 g.0 e in
    ap (λ (x : Change). x ∷ cs) p.0 ∙ ap (λ (x : List Change). d ∷ x) (told cs ds h.1 g.1 p.1)

-- ── so the first roster and the text tell the second ──

pub text_tells : TextTells
text_tells xs bs ys ds p q r s e = told (listed xs bs) (listed ys ds) (listed_are_bounded xs bs p q) (listed_are_bounded ys ds r s) e

text_gives_second : (xs bs ds : List Record) → Rising 0 xs → Rising 0 bs → Rising 0 ds → spelled (listed xs bs) ≡ spelled (listed xs ds) → bs ≡ ds
text_gives_second xs bs ds p q s e =
    sym (applied_is_second xs bs p q) ∙ ap (λ (cs : List Change). applied cs xs) (text_tells xs bs xs ds p q p s e) ∙ applied_is_second xs ds p s

pub listing_tells : ListingTells
listing_tells a b c xs bs ds e f g h =
    let A = roster_sound a xs e in
    let B = roster_sound b bs f in
    let C = roster_sound c ds g in
    B.bytes ∙ ap bytes_of (text_gives_second xs bs ds A.rising B.rising C.rising h) ∙ sym C.bytes
