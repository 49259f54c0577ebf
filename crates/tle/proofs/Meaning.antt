-- Form and meaning, one after the other, are reading as a whole; the first gives refusals 1 to 5, and after it the second never gives 16.
use Prim.Native.Nat.{ℕ, ◌≤◌}
use mathlib.Core.Path.{◌≡◌, refl, ap, sym, subst, ◌∙◌}
use mathlib.Core.List.{List}
use mathlib.Core.Bool.{Bool, true, false}
use native.Mathlib.Omega.{arith}
use lib.Dec.{eqb, ltb}
use lib.ListN.{length, get_or}
use Rattle.instant.specs.Calendar.{day_in_range}
use Rattle.columns.specs.Layout.{agreed, layout1, layout2}
use Rattle.columns.specs.Sum.{digit_of}
use Rattle.tle.specs.Legal.{inclination_in_range, angle_in_range, motion_in_range, in_form}
use Rattle.tle.specs.Refusals.{number_of}
use Rattle.tle.specs.Read.{unless, then, checksum_of, verdict_of, number_at, pair_of, fields_of, formed, form_of, ranges_of, given, meaning_of, meant, ranged, read_of}
use Rattle.tle.specs.Claims.{FormThenMeaning, FormRefusals, FormsYield, SixteenExactly, NeverSixteen, ReadRefusals}
use Rattle.tle.specs.declared.Record.{Record}
use Rattle.tle.specs.declared.Fields.{Fields}
use Rattle.tle.specs.declared.Line.{Line}
use Rattle.tle.specs.declared.Line.TheVariants.{One, Two}
use Rattle.tle.specs.declared.Refusal.{Refusal}
use Rattle.tle.specs.declared.Refusal.TheVariants.{NoForm}
use Rattle.std.specs.Prelude.{Err, Ok, Result}
use Rattle.tle.proofs.Accepted.{in_form_lem}

-- P of either answer
pub either : {B : Type 0} (P : B → Type 0) (t : Bool) (refused next : B) → P refused → P next → P (unless t refused next)
either P true refused next f g = g
either P false refused next f g = f

-- ── refusals 1 to 5 ──

abbrev Few : Result (Unit {0}) Refusal → Type 0
Few (Ok tt) = Unit {0}
Few (Err why) = number_of why ≤ 5

line_few : (which : Line) (layout line : List ℕ) → Few (verdict_of which layout line)
unfolding verdict_of
line_few which layout line =
    either Few (eqb (length line) 69) _ _ (omega arith)
    (either Few (ltb 0 (agreed layout true line)) _ _ (omega arith)
    (either Few (eqb (agreed layout true line) 69) _ _ (omega arith)
    (either Few (eqb (checksum_of line) (digit_of (get_or line 68 0))) _ _ (omega arith) tt)))

then_few : (first second : Result (Unit {0}) Refusal) → Few first → Few second → Few (then first second)
then_few (Ok tt) second h g = g
then_few (Err why) second h g = h

pair_few : (line1 line2 : List ℕ) → Few (pair_of line1 line2)
unfolding pair_of
pair_few line1 line2 =
    then_few (verdict_of One layout1 line1) _ (line_few One layout1 line1)
    (then_few (verdict_of Two layout2 line2) _ (line_few Two layout2 line2)
    (either Few (eqb (number_at line1) (number_at line2)) _ _ (omega arith) tt))

abbrev FewOf : Result Fields Refusal → Type 0
FewOf (Ok f) = Unit {0}
FewOf (Err why) = number_of why ≤ 5

few : (v : Result (Unit {0}) Refusal) (r : Record) → Few v → FewOf (formed v r)
few (Ok tt) r h = tt
few (Err why) r h = h

form_few : (line1 line2 : List ℕ) → FewOf (form_of line1 line2)
unfolding form_of
form_few line1 line2 = few (pair_of line1 line2) (fields_of line1 line2) (pair_few line1 line2)

pub form_refusals : FormRefusals
form_refusals line1 line2 why e = subst FewOf e (form_few line1 line2)

-- ── the fields that a form yields ──

abbrev Yields : Result Fields Refusal → Type 0
Yields (Ok f) = (in_form f.0 ≡ true) × (f ≡ given f.0)
Yields (Err why) = Unit {0}

yields : (v : Result (Unit {0}) Refusal) (r : Record) → (v ≡ Ok tt → in_form r ≡ true) → Yields (formed v r)
yields (Ok tt) r h = (h refl, ap (λ (b : Bool). record { 0 = r; 1 = b }) (sym (h refl)))
yields (Err why) r h = tt

form_yields : (line1 line2 : List ℕ) → Yields (form_of line1 line2)
unfolding form_of
form_yields line1 line2 = yields (pair_of line1 line2) (fields_of line1 line2) (in_form_lem line1 line2)

pub forms_yield : FormsYield
forms_yield line1 line2 f e = subst Yields e (form_yields line1 line2)

-- ── their meaning ──

-- given fields that are in form are held to their ranges
pub given_ranged : (r : Record) → in_form r ≡ true → meaning_of (given r) ≡ ranges_of r
unfolding meaning_of
given_ranged r h = rw h

pub meant_ranged : (f : Result Fields Refusal) → Yields f → meant f ≡ ranged f
meant_ranged (Ok f) h = ap meaning_of h.1 ∙ given_ranged f.0 h.0
meant_ranged (Err why) h = refl

pub form_then_meaning : FormThenMeaning
unfolding read_of
form_then_meaning line1 line2 = meant_ranged (form_of line1 line2) (form_yields line1 line2)

-- what a caller needs that takes the form apart: the refusal that it passes up, and the meaning that it goes on with, are those of reading
-- the lines
module _ (line1 line2 : List ℕ) {x : (Result Fields Refusal)} (e : x ≡ form_of line1 line2) where
  pub passed_up : {why : Refusal} → x ≡ Err why → Err why ≡ read_of line1 line2
  passed_up g = ap meant (sym g ∙ e) ∙ form_then_meaning line1 line2

  pub gone_on_lem : {f : Fields} {y : (Result Record Refusal)} → x ≡ Ok f → y ≡ meaning_of f → y ≡ read_of line1 line2
  gone_on_lem g m = m ∙ ap meant (sym g ∙ e) ∙ form_then_meaning line1 line2

-- no range is refused with 16
abbrev Other : Result Record Refusal → Type 0
Other (Ok r) = Unit {0}
Other (Err why) = number_of why ≤ 6

ranges_other : (r : Record) → Other (ranges_of r)
unfolding ranges_of
ranges_other r =
    either Other (day_in_range r.year r.day) _ _ (omega arith)
    (either Other (inclination_in_range r.inclination) _ _ (omega arith)
    (either Other (angle_in_range r.node) _ _ (omega arith)
    (either Other (angle_in_range r.perigee) _ _ (omega arith)
    (either Other (angle_in_range r.anomaly) _ _ (omega arith)
    (either Other (motion_in_range r.motion) _ _ (omega arith) tt)))))

ranged_other : (f : Result Fields Refusal) → FewOf f → Other (ranged f)
ranged_other (Ok f) h = ranges_other f.0
ranged_other (Err why) h = omega (arith, h)

pub read_refusals : ReadRefusals
unfolding read_of
read_refusals line1 line2 why e = subst Other e (ranged_other (form_of line1 line2) (form_few line1 line2))

-- what is held to its ranges is not refused with 16
not_sixteen : (r : Record) → ranges_of r ≡ Err NoForm → ⊥
not_sixteen r e = let q : Other (Err NoForm) = subst Other e (ranges_other r) in omega arith

pub never_sixteen : NeverSixteen
never_sixteen line1 line2 f e m =
    let h = forms_yield line1 line2 f e in
    not_sixteen f.0 (sym (given_ranged f.0 h.0) ∙ ap meaning_of (sym h.1) ∙ m)

sixteen_by : (b : Bool) (r : Record) → unless b (Err NoForm) (ranges_of r) ≡ Err NoForm → b ≡ false
sixteen_by true r e = absurd (not_sixteen r e)
sixteen_by false r e = refl

pub sixteen_exactly : SixteenExactly
unfolding meaning_of
sixteen_exactly r = (sixteen_by (in_form r) r, λ h. rw h)
