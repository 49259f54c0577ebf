-- The way back: the two lines of a record in form are lawful, no column of them has a fault, and their form yields its fields. Reading
-- those of a legal record gives that record.
use Prim.Native.Nat.{ℕ, ◌%◌}
use mathlib.Core.Path.{◌≡◌, refl, ap, sym, ◌∙◌}
use mathlib.Core.List.{List, []}
use mathlib.Core.Bool.{true}
use native.Mathlib.Omega.{arith}
use borrow.Author.Tests.{eq-eqb}
use lib.Dec.{eqb}
use lib.ListN.{length, take, get_or}
use lib.Seq.{take_at, get_or_at}
use Rattle.text.specs.Output.{bytes}
use Rattle.columns.specs.Layout.{layout1, layout2, agreed}
use Rattle.tle.specs.Claims.{layout_of}
use Rattle.columns.specs.Sum.{digit_of, sum}
use Rattle.tle.specs.Legal.{in_layout, in_places, in_form, in_ranges, legal}
use Rattle.tle.specs.Read.{verdict_of, number_at, pair_of, form_of, ranges_of, given, meaning_of, ranged, read_of}
use Rattle.tle.specs.declared.Record.{Record}
use Rattle.tle.specs.declared.Line.{Line}
use Rattle.tle.specs.declared.Line.TheVariants.{One, Two}
use Rattle.std.specs.Prelude.{Ok}
use Rattle.tle.specs.declared.Refusal.TheVariants.{NoForm}
use Rattle.tle.proofs.Meaning.{forms_yield}
use Rattle.tle.proofs.Accepted.{within}
use Rattle.tle.proofs.Accepted as T
use Rattle.tle_writer.specs.Field.{place, lead, digits}
use Rattle.tle_writer.specs.Lines.{join, body_of, closed_of, line_of}
use Rattle.tle_writer.specs.Claims.{WrittenAreLawful, FormsExactly, MeaningExactly, ReturnTrip}
use Rattle.tle_writer.proofs.Bodies.{places}
use Rattle.tle_writer.proofs.Writes.{length_line}
use Rattle.tle_writer.proofs.Facts.{Held, both, formed, ranges, legal_in_form}
use Rattle.tle_writer.proofs.Values.{place_value}
use Rattle.tle_writer.proofs.Back.{fields_back}
use Rattle.tle_writer.proofs.Keeps.{Field, end, ◌then◌, ◌⊳◌, none, blank, keeps_agreed, alls, leads, digits_keep, number_keeps, right_keep, pointed_keep, day_keeps, fraction_keeps, scaled_keeps, letter_keeps, designator_keeps}

start1 : Field (bytes "1 ") (bytes "1 ")
start1 a = refl then refl then end

start2 : Field (bytes "2 ") (bytes "2 ")
start2 a = refl then refl then end

-- each line keeps its layout, field by field
keeps1 : (r : Record) → Held r → Field layout1 (line_of One r)
unfolding line_of closed_of body_of join alls leads
keeps1 r k =
    (start1 ⊳ number_keeps r.number k.number ⊳ letter_keeps r.class
    ⊳ blank ⊳ designator_keeps r.designator k.designator
    ⊳ blank ⊳ digits_keep 2 (r.year % 100) ⊳ day_keeps r.day
    ⊳ blank ⊳ fraction_keeps r.ndot
    ⊳ blank ⊳ scaled_keeps r.nddot
    ⊳ blank ⊳ scaled_keeps r.bstar
    ⊳ blank ⊳ digits_keep 1 r.ephemeris ⊳ blank ⊳ right_keep 3 r.element ⊳ none)
    ⊳ digits_keep 1 (sum (body_of One r) % 10)

keeps2 : (r : Record) → Held r → Field layout2 (line_of Two r)
unfolding line_of closed_of body_of join alls leads
keeps2 r k =
    (start2 ⊳ number_keeps r.number k.number
    ⊳ blank ⊳ pointed_keep 2 4 r.inclination
    ⊳ blank ⊳ pointed_keep 2 4 r.node
    ⊳ blank ⊳ digits_keep 7 r.eccentricity
    ⊳ blank ⊳ pointed_keep 2 4 r.perigee
    ⊳ blank ⊳ pointed_keep 2 4 r.anomaly
    ⊳ blank ⊳ pointed_keep 1 8 r.motion
    ⊳ right_keep 4 r.revolution ⊳ none)
    ⊳ digits_keep 1 (sum (body_of Two r) % 10)

agreed_all : (which : Line) (r : Record) → Held r → agreed (layout_of which) true (line_of which r) ≡ 69
agreed_all One r k = keeps_agreed (keeps1 r k true)
agreed_all Two r k = keeps_agreed (keeps2 r k true)

pub lawful : WrittenAreLawful
lawful One r h = (length_line One r, agreed_all One r (formed r (legal_in_form r h)))
lawful Two r h = (length_line Two r, agreed_all Two r (formed r (legal_in_form r h)))

length_body : (which : Line) (r : Record) → length (body_of which r) ≡ 68
unfolding body_of join lead
length_body One r = rw (places r.designator)
length_body Two r = refl

-- the checksum stands behind what it is taken over
module _ (body : List ℕ) (h : length body ≡ 68) where
  before : take 68 (closed_of body) ≡ body
  unfolding closed_of
  before = take_at body (digits 1 (sum body % 10)) 68 h

  last : get_or (closed_of body) 68 0 ≡ place 48 (sum body % 10)
  unfolding closed_of lead
  last = get_or_at body (place 48 (sum body % 10)) [] 0 68 h

  pub checks : eqb (sum (take 68 (closed_of body)) % 10) (digit_of (get_or (closed_of body) 68 0)) ≡ true
  unfolding digit_of
  checks =
      let e : sum body % 10 % 10 ≡ sum body % 10 = omega arith in
      eq-eqb _ _ (ap (λ (l : List ℕ). sum l % 10) before ∙ sym (ap digit_of last ∙ place_value _ 48 (sum body % 10) refl refl ∙ e))

-- a line written and judged has no fault in any column, and its checksum is right
pub judged : (which : Line) (r : Record) → Held r → verdict_of which (layout_of which) (line_of which r) ≡ Ok tt
unfolding verdict_of line_of
judged which r k =
    rw (length_line which r, agreed_all which r k, checks (body_of which r) (length_body which r))

-- both lines bear the record's catalogue number
numbers : (r : Record) → number_at (line_of One r) ≡ number_at (line_of Two r)
unfolding number_at line_of closed_of body_of join lead
numbers r = refl

pub pair_lawful : (r : Record) → Held r → pair_of (line_of One r) (line_of Two r) ≡ Ok tt
unfolding pair_of
pair_lawful r k = rw (judged One r k, judged Two r k, eq-eqb (number_at (line_of One r)) (number_at (line_of Two r)) (numbers r))

-- their form yields the record's fields, in range or not
pub form_back : (r : Record) → in_form r ≡ true → form_of (line_of One r) (line_of Two r) ≡ Ok (given r)
unfolding form_of
form_back r h = rw (pair_lawful r (formed r h), fields_back r (formed r h), h)

pub forms_exactly : FormsExactly
forms_exactly r = (λ h. (line_of One r, line_of Two r, form_back r h), λ l. (forms_yield l.0 l.1 (given r) l.2).0)

in_ranges_lem : (r : Record) → in_ranges r ≡ true → ranges_of r ≡ Ok r
unfolding ranges_of
in_ranges_lem r h =
    let k = ranges r h in
    rw (k.day, k.inclination, k.node, k.perigee, k.anomaly, k.motion)

legal_ranges : (r : Record) → legal r ≡ true → in_ranges r ≡ true
unfolding legal
legal_ranges r h = (both (in_layout r) (in_ranges r) h).1

-- fields in form and in their ranges are those of a legal record
pub meaning_exactly : MeaningExactly
unfolding meaning_of legal in_form
meaning_exactly f r = (
  λ e.
      let w = within (in_form f) NoForm (ranges_of f) r e in
      let g = T.in_ranges_lem f r w.1 in
      (g.1, rw (← g.1) (rw ((both (in_layout f) (in_places f) w.0).0, g.0))),
  λ k. rw (k.0, legal_in_form r k.1) (in_ranges_lem r (legal_ranges r k.1)),
)

pub read_back : ReturnTrip
unfolding read_of
read_back r h = ap ranged (form_back r (legal_in_form r h)) ∙ in_ranges_lem r (legal_ranges r h)
