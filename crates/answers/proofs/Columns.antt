-- The column that comes back with refusal 3 is a column of its line.
use Prim.Native.Nat.{ℕ, suc, ◌+◌, ◌%◌, ◌≤◌}
use mathlib.Core.Path.{◌≡◌, refl, ap, subst}
use mathlib.Core.Bool.{Bool, true, false, cond}
use mathlib.Core.List.{List, [], ◌∷◌}
use native.Mathlib.Omega.{arith}
use borrow.Author.Tests.{eqb-true, eqb-false}
use lib.Dec.{eqb, ltb}
use lib.ListN.{length, get_or}
use Rattle.instant.specs.Calendar.{day_in_range}
use Rattle.columns.specs.Layout.{fits, agreed, is_blank, layout1, layout2}
use Rattle.columns.specs.Sum.{digit_of}
use Rattle.tle.specs.Legal.{inclination_in_range, angle_in_range, motion_in_range}
use Rattle.tle.specs.Read.{unless, then, checksum_of, verdict_of, number_at, pair_of, fields_of, formed, form_of, ranges_of, ranged, read_of}
use Rattle.tle.specs.declared.Record.{Record}
use Rattle.tle.specs.declared.Line.{Line}
use Rattle.tle.specs.declared.Line.TheVariants.{One, Two}
use Rattle.tle.specs.declared.Refusal.{Refusal}
use Rattle.tle.specs.declared.Refusal.TheVariants.{Length, Start, Column, Checksum, Numbers, Range, NoForm}
use Rattle.std.specs.Prelude.{Err, Ok, Result}
use Rattle.answers.specs.Refusals.{ColumnFits, in_bits}

one_more : (t : Bool) (n m : ℕ) → n ≤ m → cond t (suc n) 0 ≤ suc m
one_more true n m h = omega arith
one_more false n m h = omega arith

agreed_most : (cs : List ℕ) (a : Bool) (bs : List ℕ) → agreed cs a bs ≤ length bs
unfolding agreed
agreed_most [] a bs = omega arith
agreed_most (c ∷ cs) a [] = omega arith
agreed_most (c ∷ cs) a (b ∷ bs) = one_more (fits c a b) _ _ (agreed_most cs (is_blank b) bs)

-- P of either answer, each by what its test says
by : {B : Type 0} (P : B → Type 0) (t : Bool) (refused next : B) → (t ≡ false → P refused) → (t ≡ true → P next) → P (unless t refused next)
by P true refused next f g = g refl
by P false refused next f g = f refl

abbrev VerdictFits : Result (Unit {0}) Refusal → Type 0
VerdictFits (Ok tt) = Unit {0}
VerdictFits (Err why) = ColumnFits why

line_fits : (which : Line) (layout line : List ℕ) → VerdictFits (verdict_of which layout line)
unfolding verdict_of
line_fits which layout line =
    let n = agreed layout true line in
    by VerdictFits (eqb (length line) 69) _ _ (λ h. tt)
    (λ long. by VerdictFits (ltb 0 n) _ _ (λ h. tt)
    (λ h. by VerdictFits (eqb n 69) _ _ (λ short. below n (length line) (agreed_most layout true line) (eqb-true (length line) 69 long) (eqb-false n 69 short))
    (λ h. by VerdictFits (eqb (checksum_of line) (digit_of (get_or line 68 0))) _ _ (λ h. tt) (λ h. tt))))
  where
    below : (n m : ℕ) → n ≤ m → m ≡ 69 → (n ≡ 69 → ⊥) → n + 1 ≤ 69
    below n m h e d = omega (arith, d)

then_fits : (first second : Result (Unit {0}) Refusal) → VerdictFits first → VerdictFits second → VerdictFits (then first second)
then_fits (Ok tt) second h g = g
then_fits (Err why) second h g = h

numbers_fit : (t : Bool) → VerdictFits (unless t (Err Numbers) (Ok tt))
numbers_fit true = tt
numbers_fit false = tt

pair_fits : (line1 line2 : List ℕ) → VerdictFits (pair_of line1 line2)
unfolding pair_of
pair_fits line1 line2 =
    let numbers = unless (eqb (number_at line1) (number_at line2)) (Err Numbers) (Ok tt) in
    let second = verdict_of Two layout2 line2 in
    then_fits (verdict_of One layout1 line1) (then second numbers) (line_fits One layout1 line1)
    (then_fits second numbers (line_fits Two layout2 line2) (numbers_fit (eqb (number_at line1) (number_at line2))))

abbrev pub ReadingFits : Result Record Refusal → Type 0
ReadingFits (Ok r) = Unit {0}
ReadingFits (Err why) = ColumnFits why

pub ranges_fit : (r : Record) → ReadingFits (ranges_of r)
unfolding ranges_of
ranges_fit r =
    by ReadingFits (day_in_range r.year r.day) _ _ (λ h. tt)
    (λ h. by ReadingFits (inclination_in_range r.inclination) _ _ (λ h. tt)
    (λ h. by ReadingFits (angle_in_range r.node) _ _ (λ h. tt)
    (λ h. by ReadingFits (angle_in_range r.perigee) _ _ (λ h. tt)
    (λ h. by ReadingFits (angle_in_range r.anomaly) _ _ (λ h. tt)
    (λ h. by ReadingFits (motion_in_range r.motion) _ _ (λ h. tt) (λ h. tt))))))

form_fits : (v : Result (Unit {0}) Refusal) (r : Record) → VerdictFits v → ReadingFits (ranged (formed v r))
form_fits (Ok tt) r h = ranges_fit r
form_fits (Err why) r h = h

pub reading_fits : (line1 line2 : List ℕ) → ReadingFits (read_of line1 line2)
unfolding read_of form_of
reading_fits line1 line2 = form_fits (pair_of line1 line2) (fields_of line1 line2) (pair_fits line1 line2)

-- of every refusal that reading gives
pub columns_fit : (line1 line2 : List ℕ) (why : Refusal) → read_of line1 line2 ≡ Err why → ColumnFits why
columns_fit line1 line2 why e = subst ReadingFits e (reading_fits line1 line2)

-- whose column then stays as it is
pub fits_bits : (why : Refusal) → ColumnFits why → in_bits why ≡ why
unfolding in_bits
fits_bits (Length line) h = refl
fits_bits (Start line) h = refl
fits_bits (Column line column) h = let e : column % 65536 ≡ column = omega arith in ap (Column line) e
fits_bits (Checksum line) h = refl
fits_bits Numbers h = refl
fits_bits (Range field) h = refl
fits_bits NoForm h = refl

pub read_in_bits : (line1 line2 : List ℕ) (why : Refusal) → read_of line1 line2 ≡ Err why → in_bits why ≡ why
read_in_bits line1 line2 why e = fits_bits why (columns_fit line1 line2 why e)
