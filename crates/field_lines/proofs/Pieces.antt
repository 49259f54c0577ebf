-- Pieces of the listing's lines, put one after the other.
use Prim.Native.Nat.{ℕ, zero, suc, ◌-◌, ◌<◌, ◌≤◌}
use mathlib.Core.Path.{◌≡◌, refl, ap, sym, ◌∙◌}
use mathlib.Core.Bool.{Bool, true, false, cond}
use mathlib.Core.List.{List, [], ◌∷◌, ◌++◌, append_assoc}
use native.Mathlib.Omega.{arith}
use borrow.Author.Tests.{lt-ltb, le-ltb, eq-eqb, eqb-true, eqb-false}
use lib.Dec.{eqb, ltb}
use lib.IntN.{ℤ, pos, negsuc, nat_abs, sub_ℕ, ◌-ℤ◌}
use lib.ListN.{length}
use mir.Syntax.{w64}
use mir.Val.{SFits, of_z, to_z}
use Rattle.text.specs.Output.{Put, most, decimal, signed}
use Rattle.text.proofs.Pieces.{none, both, same}
use Rattle.text.proofs.Signed.{steady}
use Rattle.tle.specs.declared.Scaled.{Scaled}
use Rattle.tle.specs.Legal.{legal}
use Rattle.tle.specs.declared.Record.{Record}
use Rattle.roster.specs.Records.{instant_of}
use Rattle.changes.specs.Entry.{Ephemeris, Element, Inclination, Node, Eccentricity, Perigee, Anomaly, Motion, Revolution, Entry, Classes, Designators, Epochs, Ndots, Nddots, Bstars, Counts, sameℤ, same_class, same_designator, same_scaled, unless, differences}
use Rattle.changes.specs.Changes.{Field, fields}
use Rattle.changes_text.specs.Text.{label, values, body, spelled}
use Rattle.field_lines.specs.Lines.{named, line_of, unless_line, shape_text, counts_text, fields_text}
use Rattle.changes.proofs.Fields.{same_ℤ}

line_is : (n : ℕ) (l v : List ℕ) → named n l ++ (v ++ (10 ∷ [])) ≡ line_of n l v
unfolding named line_of
line_is n l v = simp append_assoc

shown : (t : Bool) (n : ℕ) (l v : List ℕ) → t ≡ false → line_of n l v ≡ unless_line t n l v
shown t n l v e = rw e

pub put_line : {o o1 o2 o3 : List ℕ} {a p q r : ℕ} (t : Bool) (n : ℕ) (l v : List ℕ) → t ≡ false
    → Put o a (named n l) o1 p → Put o1 p v o2 q → Put o2 q (10 ∷ []) o3 r → Put o a (unless_line t n l v) o3 r
put_line t n l v e x y z = same (line_is n l v ∙ shown t n l v e) (both x (both y z))

pub put_none : {o : List ℕ} {a : ℕ} (t : Bool) (n : ℕ) (l v : List ℕ) → t ≡ true → length o ≤ most → a ≤ most → Put o a (unless_line t n l v) o a
put_none t n l v e h g = same (hidden e) (none h g)
  where
    hidden : t ≡ true → [] ≡ unless_line t n l v
    hidden e = rw e

-- ── a difference of two counts ──

pub less_minus : (s f : ℕ) → s < f → 45 ∷ decimal (f - s) ≡ signed (sub_ℕ s f)
unfolding signed
less_minus s f h = let e : f - s ≡ suc (f - suc s) = omega arith in rw (lt-ltb s f h, e)

pub less_plus : (s f : ℕ) → f ≤ s → decimal (s - f) ≡ signed (sub_ℕ s f)
unfolding signed
less_plus s f h = rw (le-ltb s f h)

-- ── signed numbers, as the machine compares them ──

refl_ℤ : (x : ℤ) → sameℤ x x ≡ true
unfolding sameℤ
refl_ℤ (pos n) = eq-eqb n n refl
refl_ℤ (negsuc n) = eq-eqb n n refl

module _ (x y : ℤ) (f : SFits w64 x) (g : SFits w64 y) where
  pub same_yes : of_z w64 x ≡ of_z w64 y → sameℤ x y ≡ true
  same_yes e =
      let q : x ≡ y = sym (steady x f) ∙ ap (to_z w64) e ∙ steady y g in
      ap (sameℤ x) (sym q) ∙ refl_ℤ x

  same_no_by : (t : Bool) → sameℤ x y ≡ t → (of_z w64 x ≡ of_z w64 y → ⊥) → t ≡ false
  same_no_by true e n = absurd (n (ap (of_z w64) (same_ℤ x y e)))
  same_no_by false e n = refl

  pub same_no : (of_z w64 x ≡ of_z w64 y → ⊥) → sameℤ x y ≡ false
  same_no n = same_no_by (sameℤ x y) refl n

  tested_by : (t : Bool) → eqb (of_z w64 x) (of_z w64 y) ≡ t → t ≡ sameℤ x y
  tested_by true e = sym (same_yes (eqb-true (of_z w64 x) (of_z w64 y) e))
  tested_by false e = sym (same_no (eqb-false (of_z w64 x) (of_z w64 y) e))

  pub tested : eqb (of_z w64 x) (of_z w64 y) ≡ sameℤ x y
  tested = tested_by (eqb (of_z w64 x) (of_z w64 y)) refl

module _ (x y : Scaled) (f : SFits w64 x.mantissa) (g : SFits w64 y.mantissa) where
  pub scaled_same : SFits w64 x.exponent → SFits w64 y.exponent → of_z w64 x.mantissa ≡ of_z w64 y.mantissa
      → eqb (of_z w64 x.exponent) (of_z w64 y.exponent) ≡ same_scaled x y
  unfolding same_scaled
  scaled_same h k e = rw (same_yes x.mantissa y.mantissa f g e) (tested x.exponent y.exponent h k)

  pub scaled_other : (of_z w64 x.mantissa ≡ of_z w64 y.mantissa → ⊥) → false ≡ same_scaled x y
  unfolding same_scaled
  scaled_other n = rw (same_no x.mantissa y.mantissa f g n)

sub_fits : (x y : ℕ) → x < 100000001 → y < 100000001 → SFits w64 (sub_ℕ y x)
sub_fits x y h g = by (ltb y x)
  where
    by : (t : Bool) → SFits w64 (cond t (negsuc (x - suc y)) (pos (y - x)))
    by true = record { sfits = omega arith }
    by false = record { sfits = omega arith }

pub less_fits : (x y : ℤ) → nat_abs x < 100000000 → nat_abs y < 100000000 → SFits w64 (y -ℤ x)
less_fits (pos zero) (pos b) h g = record { sfits = omega arith }
less_fits (pos (suc a)) (pos b) h g = sub_fits (suc a) b (omega arith) (omega arith)
less_fits (pos zero) (negsuc b) h g = sub_fits (suc b) 0 (omega arith) (omega arith)
less_fits (pos (suc a)) (negsuc b) h g = record { sfits = omega arith }
less_fits (negsuc a) (pos b) h g = record { sfits = omega arith }
less_fits (negsuc a) (negsuc b) h g = sub_fits (suc b) (suc a) (omega arith) (omega arith)

-- ── the fields of two records, line after line ──

module _ (n : ℕ) where
  each : (t : Bool) (e : Entry) (es : List Entry) (x : List ℕ) → spelled (fields n es) ≡ x → spelled (fields n (unless t e ++ es)) ≡ unless_line t n (label e) (values e) ++ x
  unfolding spelled fields line_of
  each true e es x h = h
  each false e es x h = rw h (sym (append_assoc (body (Field n e)) (10 ∷ []) x))

  last : (t : Bool) (e : Entry) → spelled (fields n (unless t e ++ [])) ≡ unless_line t n (label e) (values e)
  unfolding spelled fields line_of
  last true e = refl
  last false e = refl

  pub fields_text_lem : (a b : Record) → shape_text n a b ++ counts_text n a b ≡ spelled (fields n (differences a b))
  unfolding shape_text counts_text differences
  fields_text_lem a b =
      let all = each (same_class a.class b.class) (Classes a.class b.class) _ _
      (each (same_designator a.designator b.designator) (Designators a.designator b.designator) _ _
      (each (eqb (instant_of a) (instant_of b)) (Epochs (sub_ℕ (instant_of b) (instant_of a))) _ _
      (each (sameℤ a.ndot b.ndot) (Ndots (b.ndot -ℤ a.ndot)) _ _
      (each (same_scaled a.nddot b.nddot) (Nddots a.nddot b.nddot) _ _
      (each (same_scaled a.bstar b.bstar) (Bstars a.bstar b.bstar) _ _
      (each (eqb a.ephemeris b.ephemeris) (Counts Ephemeris (sub_ℕ b.ephemeris a.ephemeris)) _ _
      (each (eqb a.element b.element) (Counts Element (sub_ℕ b.element a.element)) _ _
      (each (eqb a.inclination b.inclination) (Counts Inclination (sub_ℕ b.inclination a.inclination)) _ _
      (each (eqb a.node b.node) (Counts Node (sub_ℕ b.node a.node)) _ _
      (each (eqb a.eccentricity b.eccentricity) (Counts Eccentricity (sub_ℕ b.eccentricity a.eccentricity)) _ _
      (each (eqb a.perigee b.perigee) (Counts Perigee (sub_ℕ b.perigee a.perigee)) _ _
      (each (eqb a.anomaly b.anomaly) (Counts Anomaly (sub_ℕ b.anomaly a.anomaly)) _ _
      (each (eqb a.motion b.motion) (Counts Motion (sub_ℕ b.motion a.motion)) _ _
      (last (eqb a.revolution b.revolution) (Counts Revolution (sub_ℕ b.revolution a.revolution)))))))))))))))) in
      simp append_assoc (sym all)

-- ── two records that may be illegal ──

module _ {o : List ℕ} {at : ℕ} (a b : Record) where
  pub both_legal : {o' : List ℕ} {k : ℕ} → legal a ≡ true → legal b ≡ true → Put o at (spelled (fields a.number (differences a b))) o' k → Put o at (fields_text a b) o' k
  both_legal h g p = rw (h, g) p

  pub first_illegal : legal a ≡ false → length o ≤ most → at ≤ most → Put o at (fields_text a b) o at
  first_illegal h l m = rw h (none l m)

  pub second_illegal : legal a ≡ true → legal b ≡ false → length o ≤ most → at ≤ most → Put o at (fields_text a b) o at
  second_illegal h g l m = rw (h, g) (none l m)
