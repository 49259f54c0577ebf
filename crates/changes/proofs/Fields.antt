-- The differences of two records, applied to the first, give the second.
use Prim.Native.Nat.{ℕ, suc, ◌-◌, ◌*◌, ◌/◌, ◌%◌}
use mathlib.Core.Path.{◌≡◌, refl, ap, sym, ◌∙◌}
use mathlib.Core.Bool.{Bool, true, false, cond, ◌&&◌}
use mathlib.Core.List.{List, [], ◌++◌}
use native.Mathlib.Omega.{arith}
use borrow.Author.Tests.{ltb-true, ltb-false, le-ltb, eqb-true}
use lib.Dec.{eqb, ltb}
use lib.IntN.{ℤ, pos, negsuc, sub_ℕ, ◌-ℤ◌, -ℤ-+ℤ_cancel}
use Rattle.instant.specs.Calendar.{year_in_range, unit_micros, date_of}
use Rattle.std.specs.Prelude.{Option, Some}
use Rattle.instant.specs.declared.Date.{Date}
use Rattle.instant.proofs.Theorems.{epochs_apart}
use Rattle.instant.proofs.Calendar.{year_within}
use Rattle.tle.specs.declared.Class.{Class}
use Rattle.tle.specs.declared.Class.TheVariants.{Unclassified, Classified, Secret}
use Rattle.tle.specs.declared.Designator.{Designator}
use Rattle.tle.specs.declared.Designator.TheVariants.{Blank, Piece}
use Rattle.tle.specs.declared.Scaled.{Scaled}
use Rattle.tle.specs.declared.Record.{Record}
use Rattle.tle_writer.proofs.Facts.{Facts}
use Rattle.tle.specs.Read.{letter}
use Rattle.roster.specs.Records.{instant_of}
use Rattle.tle_writer.proofs.Facts.{both}
use Rattle.changes.specs.Entry.{Count, Ephemeris, Element, Inclination, Node, Eccentricity, Perigee, Anomaly, Motion, Revolution, Entry, Classes, Designators, Epochs, Ndots, Nddots, Bstars, Counts, sameℤ, same_class, same_designator, same_scaled, unless, differences, moved, year_in, day_in, patch, patch_all}

-- ── values that are the same are equal ──

pub same_ℤ : (x y : ℤ) → sameℤ x y ≡ true → x ≡ y
unfolding sameℤ
same_ℤ (pos a) (pos b) h = ap pos (eqb-true a b h)
same_ℤ (pos a) (negsuc b) h = let z : ◌≡◌ {A = ℕ} 0 1 = cc in absurd (omega arith)
same_ℤ (negsuc a) (pos b) h = let z : ◌≡◌ {A = ℕ} 0 1 = cc in absurd (omega arith)
same_ℤ (negsuc a) (negsuc b) h = ap negsuc (eqb-true a b h)

pub same_letter : (x y : Class) → letter x ≡ letter y → x ≡ y
unfolding letter
same_letter Unclassified Unclassified h = refl
same_letter Unclassified Classified h = absurd (omega arith)
same_letter Unclassified Secret h = absurd (omega arith)
same_letter Classified Unclassified h = absurd (omega arith)
same_letter Classified Classified h = refl
same_letter Classified Secret h = absurd (omega arith)
same_letter Secret Unclassified h = absurd (omega arith)
same_letter Secret Classified h = absurd (omega arith)
same_letter Secret Secret h = refl

same_class_lem : (x y : Class) → same_class x y ≡ true → x ≡ y
unfolding same_class
same_class_lem x y h = same_letter x y (eqb-true (letter x) (letter y) h)

same_designator_lem : (x y : Designator) → same_designator x y ≡ true → x ≡ y
unfolding same_designator
same_designator_lem Blank Blank h = refl
same_designator_lem Blank (Piece m d e f) h = let z : ◌≡◌ {A = ℕ} 0 1 = cc in absurd (omega arith)
same_designator_lem (Piece l a b c) Blank h = let z : ◌≡◌ {A = ℕ} 0 1 = cc in absurd (omega arith)
same_designator_lem (Piece l a b c) (Piece m d e f) h =
    let p = both (eqb l m) (eqb a d && (eqb b e && eqb c f)) h in
    let q = both (eqb a d) (eqb b e && eqb c f) p.1 in
    let s = both (eqb b e) (eqb c f) q.1 in
    let e1 = eqb-true l m p.0 in
    let e2 = eqb-true a d q.0 in
    let e3 = eqb-true b e s.0 in
    let e4 = eqb-true c f s.1 in
    rw (e1, e2, e3, e4)

same_scaled_lem : (x y : Scaled) → same_scaled x y ≡ true → x ≡ y
unfolding same_scaled
same_scaled_lem x y h =
    let p = both (sameℤ x.mantissa y.mantissa) (sameℤ x.exponent y.exponent) h in
    let m = same_ℤ x.mantissa y.mantissa p.0 in
    let e = same_ℤ x.exponent y.exponent p.1 in
    ap (λ (z : ℤ). record { mantissa = z; exponent = x.exponent }) m ∙ ap (λ (z : ℤ). record { mantissa = y.mantissa; exponent = z }) e

-- ── a count moved by what it differs by ──

add_back : (t : Bool) (x y : ℕ) → ltb y x ≡ t → moved x (cond t (negsuc (x - suc y)) (pos (y - x))) ≡ y
add_back true x y h =
    let g = ltb-true y x h in
    let s : ltb x (suc (x - suc y)) ≡ false = le-ltb x (suc (x - suc y)) (omega arith) in
    rw s (omega arith)
add_back false x y h = omega (arith, ltb-false y x h)

pub moved_back : (x y : ℕ) → moved x (sub_ℕ y x) ≡ y
moved_back x y = add_back (ltb y x) x y refl

-- ── an epoch moved by what it differs by ──

module _ (r : Record) (F : Facts r) where
  pub year_in_lem : year_in_range r.year ≡ true
  year_in_lem = year_within r.year F.year_low F.year_high

  dated_back : date_of (instant_of r) ≡ Some (record { year = r.year; day = r.day / 100000000; micros = r.day % 100000000 * unit_micros })
  unfolding instant_of
  dated_back = epochs_apart r.year r.day year_in_lem F.day

  year_back : (y : ℕ) → year_in (date_of (instant_of r)) y ≡ r.year
  year_back y = rw dated_back

  day_back : (x : ℕ) → day_in (date_of (instant_of r)) x ≡ r.day
  day_back x = rw dated_back (omega arith)

-- ── field after field ──

patch_each : (t : Bool) (e : Entry) (es : List Entry) (r s : Record) → (t ≡ true → r ≡ s) → patch e r ≡ s → patch_all (unless t e ++ es) r ≡ patch_all es s
unfolding patch_all
patch_each true e es r s h g = ap (patch_all es) (h refl)
patch_each false e es r s h g = ap (patch_all es) g

-- g: a record by the value of the count c
count_each : (c : Count) (es : List Entry) (x y : ℕ) (g : ℕ → Record) → ((v : ℕ) (d : ℤ) → patch (Counts c d) (g v) ≡ g (moved v d))
    → patch_all (unless (eqb x y) (Counts c (sub_ℕ y x)) ++ es) (g x) ≡ patch_all es (g y)
count_each c es x y g p =
    patch_each (eqb x y) (Counts c (sub_ℕ y x)) es (g x) (g y) (λ h. ap g (eqb-true x y h)) (p x (sub_ℕ y x) ∙ ap g (moved_back x y))

none_left : (r : Record) → patch_all [] r ≡ r
unfolding patch_all
none_left r = refl

-- of a field of index i: the second's value y before index k, the first's x after it, and at it v
abbrev pick : {T : Type 0} → ℕ → ℕ → T → T → T
pick i k x y = cond (ltb i k) y x

abbrev hole : {T : Type 0} → ℕ → ℕ → T → T → T → T
hole i k v x y = cond (eqb i k) v (pick i k x y)

module _ (a b : Record) (A : Facts a) (B : Facts b) where
  -- the fields before index k are the second's, those after it the first's, and one at it is given
  abbrev mixed : ℕ → ℕ → ℕ → ℕ → ℤ → ℕ → Record
  mixed k number year day ndot v = record {
    number = number;
    class = pick 0 k a.class b.class;
    designator = pick 1 k a.designator b.designator;
    year = hole 2 k year a.year b.year;
    day = hole 2 k day a.day b.day;
    ndot = hole 3 k ndot a.ndot b.ndot;
    nddot = pick 4 k a.nddot b.nddot;
    bstar = pick 5 k a.bstar b.bstar;
    ephemeris = hole 6 k v a.ephemeris b.ephemeris;
    element = hole 7 k v a.element b.element;
    inclination = hole 8 k v a.inclination b.inclination;
    node = hole 9 k v a.node b.node;
    eccentricity = hole 10 k v a.eccentricity b.eccentricity;
    perigee = hole 11 k v a.perigee b.perigee;
    anomaly = hole 12 k v a.anomaly b.anomaly;
    motion = hole 13 k v a.motion b.motion;
    revolution = hole 14 k v a.revolution b.revolution;
  }

  abbrev before : ℕ → Record
  before k = mixed k a.number a.year a.day a.ndot a.ephemeris

  abbrev counted : ℕ → ℕ → Record
  counted k v = mixed k a.number 0 0 (pos 0) v

  class_step : (es : List Entry) → patch_all (unless (same_class a.class b.class) (Classes a.class b.class) ++ es) (before 0) ≡ patch_all es (before 1)
  class_step es =
      patch_each (same_class a.class b.class) (Classes a.class b.class) es (before 0) (before 1)
      (λ h. ap (λ (v : Class). patch (Classes v v) (before 0)) (same_class_lem a.class b.class h)) refl

  designator_step : (es : List Entry)
      → patch_all (unless (same_designator a.designator b.designator) (Designators a.designator b.designator) ++ es) (before 1) ≡ patch_all es (before 2)
  designator_step es =
      patch_each (same_designator a.designator b.designator) (Designators a.designator b.designator) es (before 1) (before 2)
      (λ h. ap (λ (v : Designator). patch (Designators v v) (before 1)) (same_designator_lem a.designator b.designator h)) refl

  on_date : (y x : ℕ) → y ≡ b.year → x ≡ b.day → mixed 2 a.number y x (pos 0) 0 ≡ before 3
  on_date y x e f = ap (λ (y : ℕ). mixed 2 a.number y x (pos 0) 0) e ∙ ap (λ (x : ℕ). mixed 2 a.number b.year x (pos 0) 0) f

  epoch_step : (es : List Entry)
      → patch_all (unless (eqb (instant_of a) (instant_of b)) (Epochs (sub_ℕ (instant_of b) (instant_of a))) ++ es) (before 2) ≡ patch_all es (before 3)
  unfolding instant_of
  epoch_step es =
      patch_each (eqb (instant_of a) (instant_of b)) (Epochs (sub_ℕ (instant_of b) (instant_of a))) es (before 2) (before 3)
      (λ h. let e = ap date_of (eqb-true (instant_of a) (instant_of b) h) in
      on_date a.year a.day
      (sym (year_back a A 0) ∙ ap (λ (t : Option Date). year_in t 0) e ∙ year_back b B 0) (sym (day_back a A 0) ∙ ap (λ (t : Option Date). day_in t 0) e ∙ day_back b B 0))
      (let e = ap date_of (moved_back (instant_of a) (instant_of b)) in
      on_date _ _ (ap (λ (t : Option Date). year_in t a.year) e ∙ year_back b B a.year) (ap (λ (t : Option Date). day_in t a.day) e ∙ day_back b B a.day))

  abbrev with_ndot : ℤ → Record
  with_ndot z = mixed 3 a.number 0 0 z 0

  ndot_step : (es : List Entry) → patch_all (unless (sameℤ a.ndot b.ndot) (Ndots (b.ndot -ℤ a.ndot)) ++ es) (before 3) ≡ patch_all es (before 4)
  ndot_step es =
      patch_each (sameℤ a.ndot b.ndot) (Ndots (b.ndot -ℤ a.ndot)) es (before 3) (before 4)
      (λ h. ap with_ndot (same_ℤ a.ndot b.ndot h)) (ap with_ndot (-ℤ-+ℤ_cancel b.ndot a.ndot))

  nddot_step : (es : List Entry) → patch_all (unless (same_scaled a.nddot b.nddot) (Nddots a.nddot b.nddot) ++ es) (before 4) ≡ patch_all es (before 5)
  nddot_step es =
      patch_each (same_scaled a.nddot b.nddot) (Nddots a.nddot b.nddot) es (before 4) (before 5)
      (λ h. ap (λ (v : Scaled). patch (Nddots v v) (before 4)) (same_scaled_lem a.nddot b.nddot h)) refl

  bstar_step : (es : List Entry) → patch_all (unless (same_scaled a.bstar b.bstar) (Bstars a.bstar b.bstar) ++ es) (before 5) ≡ patch_all es (before 6)
  bstar_step es =
      patch_each (same_scaled a.bstar b.bstar) (Bstars a.bstar b.bstar) es (before 5) (before 6)
      (λ h. ap (λ (v : Scaled). patch (Bstars v v) (before 5)) (same_scaled_lem a.bstar b.bstar h)) refl

  pub undoes : a.number ≡ b.number → patch_all (differences a b) a ≡ b
  unfolding differences
  undoes e =
      class_step _
      ∙ designator_step _
      ∙ epoch_step _
      ∙ ndot_step _
      ∙ nddot_step _
      ∙ bstar_step _
      ∙ count_each Ephemeris _ a.ephemeris b.ephemeris (counted 6) (λ v d. refl)
      ∙ count_each Element _ a.element b.element (counted 7) (λ v d. refl)
      ∙ count_each Inclination _ a.inclination b.inclination (counted 8) (λ v d. refl)
      ∙ count_each Node _ a.node b.node (counted 9) (λ v d. refl)
      ∙ count_each Eccentricity _ a.eccentricity b.eccentricity (counted 10) (λ v d. refl)
      ∙ count_each Perigee _ a.perigee b.perigee (counted 11) (λ v d. refl)
      ∙ count_each Anomaly _ a.anomaly b.anomaly (counted 12) (λ v d. refl)
      ∙ count_each Motion _ a.motion b.motion (counted 13) (λ v d. refl)
      ∙ count_each Revolution _ a.revolution b.revolution (counted 14) (λ v d. refl)
      ∙ none_left (counted 14 b.revolution)
      ∙ ap (λ (n : ℕ). mixed 15 n 0 0 (pos 0) 0) e
