-- The column of refusal 3 is the first at which no lawful line agrees so far.
use Prim.Native.Nat.{ℕ, ◌+◌}
use mathlib.Core.Path.{◌≡◌, refl, ap, sym, ◌∙◌}
use mathlib.Core.List.{List}
use mathlib.Core.Logic.{◌⊎◌, inl, inr, ⊎_elim}
use mathlib.Core.Bool.{Bool, true, false}
use native.Mathlib.Omega.{arith}
use borrow.Author.Tests.{eqb-true, eqb-false}
use lib.Dec.{eqb, ltb}
use lib.ListN.{length, get_or}
use Rattle.columns.specs.Layout.{agreed, layout1, layout2}
use Rattle.columns.specs.Claims.{FirstFault}
use Rattle.columns.specs.Sum.{digit_of}
use Rattle.tle.specs.Read.{unless, then, checksum_of, verdict_of, number_at, pair_of, fields_of, formed, form_of, ranges_of, ranged, read_of}
use Rattle.instant.specs.Calendar.{day_in_range}
use Rattle.tle.specs.Legal.{inclination_in_range, angle_in_range, motion_in_range}
use Rattle.tle.specs.Claims.{layout_of, line_of, FirstColumn}
use Rattle.tle.specs.declared.Record.{Record}
use Rattle.tle.specs.declared.Line.{Line}
use Rattle.tle.specs.declared.Line.TheVariants.{One, Two}
use Rattle.tle.specs.declared.Refusal.{Refusal}
use Rattle.tle.specs.declared.Refusal.TheVariants.{Length, Start, Column, Checksum, Numbers, Range, NoForm}
use Rattle.std.specs.Prelude.{Err, Ok, Result}
use Rattle.tle.specs.declared.Fields.{Fields}
use Rattle.columns.proofs.Prefix.{first_faults}

-- the tests before refusal 3 were passed
past : (test : Bool) (why x : Refusal) (next : Result (Unit {0}) Refusal) → (why ≡ x → ⊥) → unless test (Err why) next ≡ Err x
    → (test ≡ true) × (next ≡ Err x)
past true why x next d e = (refl, e)
past false why x next d e = let s : why ≡ x = cc in absurd (d s)

here : (test : Bool) (which w : Line) (n column : ℕ) (next : Result (Unit {0}) Refusal) → (next ≡ Err (Column w column) → ⊥)
    → unless test (Err (Column which n)) next ≡ Err (Column w column) → (test ≡ false) × (which ≡ w) × (n ≡ column)
here true which w n column next d e = absurd (d e)
here false which w n column next d e = let s : which ≡ w = cc in let t : n ≡ column = cc in (refl, s, t)

sums_not : (test : Bool) (which w : Line) (column : ℕ) → unless {A = Result (Unit {0}) Refusal} test (Err (Checksum which)) (Ok tt) ≡ Err (Column w column) → ⊥
sums_not true which w column e = let z : ◌≡◌ {A = ℕ} 0 1 = cc in omega arith
sums_not false which w column e = let z : ◌≡◌ {A = ℕ} 0 1 = cc in omega arith

-- a line that is refused with 3
pub record Refused3 (which w : Line) (layout line : List ℕ) (column : ℕ) : Type 0 where
  pub line_is : which ≡ w
  pub long : length line ≡ 69
  pub short : agreed layout true line ≡ 69 → ⊥
  pub column_is : agreed layout true line + 1 ≡ column

refused3 : (which w : Line) (layout line : List ℕ) (column : ℕ) → verdict_of which layout line ≡ Err (Column w column) → Refused3 which w layout line column
unfolding verdict_of
refused3 which w layout line column e =
    let n = agreed layout true line in
    let test = eqb (checksum_of line) (digit_of (get_or line 68 0)) in
    let sums = unless test (Err (Checksum which)) (Ok tt) in
    let agrees = unless (eqb n 69) (Err (Column which (n + 1))) sums in
    let starts = unless (ltb 0 n) (Err (Start which)) agrees in
    let a = past (eqb (length line) 69) (Length which) (Column w column) starts (λ h. let z : ◌≡◌ {A = ℕ} 0 1 = cc in omega arith) e in
    let b = past (ltb 0 n) (Start which) (Column w column) agrees (λ h. let z : ◌≡◌ {A = ℕ} 0 1 = cc in omega arith) a.1 in
    let c = here (eqb n 69) which w (n + 1) column sums (sums_not test which w column) b.1 in
    record { line_is = c.1; long = eqb-true (length line) 69 a.0; short = eqb-false n 69 c.0; column_is = c.2 }

either : (first second : Result (Unit {0}) Refusal) (x : Refusal) → then first second ≡ Err x → (first ≡ Err x) ⊎ (second ≡ Err x)
either (Ok tt) second x e = inr e
either (Err why) second x e = inl e

abbrev numbers : List ℕ → List ℕ → Result (Unit {0}) Refusal
numbers line1 line2 = unless (eqb (number_at line1) (number_at line2)) (Err Numbers) (Ok tt)

numbers_not : (test : Bool) (w : Line) (column : ℕ) → unless {A = Result (Unit {0}) Refusal} test (Err Numbers) (Ok tt) ≡ Err (Column w column) → ⊥
numbers_not true w column e = let z : ◌≡◌ {A = ℕ} 0 1 = cc in omega arith
numbers_not false w column e = let z : ◌≡◌ {A = ℕ} 0 1 = cc in omega arith

-- ranges are not refused with 3
abbrev is3 : Result Record Refusal → Bool
is3 (Err (Column which column)) = true
is3 (Err (Length which)) = false
is3 (Err (Start which)) = false
is3 (Err (Checksum which)) = false
is3 (Err Numbers) = false
is3 (Err (Range field)) = false
is3 (Err NoForm) = false
is3 (Ok r) = false

neither : (test : Bool) (a b : Result Record Refusal) → is3 a ≡ false → is3 b ≡ false → is3 (unless test a b) ≡ false
neither true a b p q = q
neither false a b p q = p

ranges_not : (r : Record) → is3 (ranges_of r) ≡ false
unfolding ranges_of
ranges_not r =
    neither (day_in_range r.year r.day) _ _ refl
    (neither (inclination_in_range r.inclination) _ _ refl
    (neither (angle_in_range r.node) _ _ refl
    (neither (angle_in_range r.perigee) _ _ refl
    (neither (angle_in_range r.anomaly) _ _ refl
    (neither (motion_in_range r.motion) _ _ refl refl)))))

form3 : (f : Result Fields Refusal) (w : Line) (column : ℕ) → ranged f ≡ Err (Column w column) → f ≡ Err (Column w column)
form3 (Ok f) w column e = let h : is3 (ranges_of f.0) ≡ true = ap is3 e in let z : ◌≡◌ {A = Bool} true false = sym h ∙ ranges_not f.0 in let o : ◌≡◌ {A = ℕ} 0 1 = cc in absurd (omega arith)
form3 (Err why) w column e = let s : why ≡ Column w column = cc in ap Err s

pair3 : (v : Result (Unit {0}) Refusal) (r : Record) (w : Line) (column : ℕ) → formed v r ≡ Err (Column w column) → v ≡ Err (Column w column)
pair3 (Ok tt) r w column e = let z : ◌≡◌ {A = ℕ} 0 1 = cc in absurd (omega arith)
pair3 (Err why) r w column e = let s : why ≡ Column w column = cc in ap Err s

-- line 1 or line 2 was refused with 3
line3 : (line1 line2 : List ℕ) (x : Refusal) → pair_of line1 line2 ≡ Err x
    → (verdict_of One layout1 line1 ≡ Err x) ⊎ (then (verdict_of Two layout2 line2) (numbers line1 line2) ≡ Err x)
unfolding pair_of
line3 line1 line2 x e = either (verdict_of One layout1 line1) (then (verdict_of Two layout2 line2) (numbers line1 line2)) x e

fault : (which w : Line) (line1 line2 : List ℕ) (column : ℕ) → verdict_of which (layout_of which) (line_of which line1 line2) ≡ Err (Column w column)
    → FirstFault (layout_of w) (line_of w line1 line2) column
fault One w line1 line2 column e =
    let r = refused3 One w layout1 line1 column e in
    rw (← r.line_is) (first_faults.0 line1 column r.long r.short r.column_is)
fault Two w line1 line2 column e =
    let r = refused3 Two w layout2 line2 column e in
    rw (← r.line_is) (first_faults.1 line2 column r.long r.short r.column_is)

pub first_column : FirstColumn
unfolding read_of form_of
first_column line1 line2 w column e =
    let v = pair3 (pair_of line1 line2) (fields_of line1 line2) w column (form3 (formed (pair_of line1 line2) (fields_of line1 line2)) w column e) in
    ⊎_elim
    (fault One w line1 line2 column)
    (λ s. ⊎_elim (fault Two w line1 line2 column) (λ n. absurd (numbers_not (eqb (number_at line1) (number_at line2)) w column n))
    (either (verdict_of Two layout2 line2) (numbers line1 line2) (Column w column) s))
    (line3 line1 line2 (Column w column) v)
