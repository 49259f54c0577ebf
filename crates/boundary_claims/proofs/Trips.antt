-- A record stored and written, and numbers written and stored.
use Prim.Native.Nat.{ℕ, ◌≤◌}
use mathlib.Core.Path.{◌≡◌, refl, sym, ap, ◌∙◌}
use mathlib.Core.Bool.{Bool, true, false, cond, ◌||◌}
use mathlib.Core.List.{List, ◌++◌}
use native.Mathlib.Omega.{arith}
use borrow.Author.Tests.{le-ltb, leb-true}
use lib.Dec.{eqb, leb, ltb}
use lib.IntN.{ℤ}
use lib.ListN.{length, take, drop}
use lib.Seq.{take_at}
use Rattle.tle.specs.Legal.{legal}
use Rattle.tle.specs.Read.{read_of}
use Rattle.tle.specs.declared.Line.{Line}
use Rattle.tle.specs.declared.Line.TheVariants.{One, Two}
use Rattle.tle.specs.declared.Record.{Record}
use Rattle.std.specs.Prelude.{Err, Ok, Result}
use Rattle.record_numbers.specs.declared.GivenRefusal.{GivenRefusal}
use Rattle.tle_writer.specs.declared.WritingRefusal.TheVariants as writing
use Rattle.record_numbers.specs.declared.GivenRefusal.TheVariants as given_refusal
use Rattle.tle.proofs.Accepted.{accepted_are_legal}
use Rattle.tle_writer.specs.Lines.{line_of}
use Rattle.tle_writer.specs.Write.{number_of, writing_of, written_over}
use Rattle.tle_writer.proofs.Writes.{written, length_line}
use Rattle.tle_writer.proofs.Round.{read_back}
use Rattle.record_numbers.specs.Numbers.{numbers_of, given_of}
use Rattle.record_numbers.proofs.Back.{stored_is_given, given_is_stored}
use Rattle.answers.specs.Answer.{answer}
use Rattle.lent_pairs.specs.Records.{record_fields, line_refusal, line_over, line_answer, write_answer, write_out}
use Rattle.boundary_claims.specs.Trips.{WritesBack, RecordsReturn, NumbersReturn}
use Rattle.lent_pairs.proofs.Records.{accepted_stored}

absurd : {B : Type 0} → ⊥ → B
absurd = elim [ ]

-- ── the two lines of a legal record ──

module _ (r : Record) (out : List ℕ) (h : legal r ≡ true) (l : 69 ≤ length out) where
  answer_one : write_answer (Ok r) 1 out ≡ answer 0 0 0 69
  unfolding write_answer line_refusal line_answer
  answer_one = rw (← (written r One out h l).0)

  answer_two : write_answer (Ok r) 2 out ≡ answer 0 0 0 69
  unfolding write_answer line_refusal line_answer
  answer_two = rw (← (written r Two out h l).0)

  out_one : write_out (Ok r) 1 out ≡ line_of One r ++ drop 69 out
  unfolding write_out line_over
  out_one = sym (written r One out h l).1

  out_two : write_out (Ok r) 2 out ≡ line_of Two r ++ drop 69 out
  unfolding write_out line_over
  out_two = sym (written r Two out h l).1

writes_back : (r : Record) (fields : List ℤ) (out : List ℕ) → given_of fields ≡ Ok r → legal r ≡ true → 69 ≤ length out → WritesBack r fields out
writes_back r fields out g h l =
    record {
      answer1 = ap (λ z. write_answer z 1 out) g ∙ answer_one r out h l;
      line1 = ap (λ z. write_out z 1 out) g ∙ out_one r out h l;
      answer2 = ap (λ z. write_answer z 2 out) g ∙ answer_two r out h l;
      line2 = ap (λ z. write_out z 2 out) g ∙ out_two r out h l;
      reads = read_back r h;
    }

stored_by : (line1 line2 : List ℕ) (r : Record) (fields : List ℤ) → read_of line1 line2 ≡ Ok r → 22 ≤ length fields
    → record_fields (read_of line1 line2) fields ≡ numbers_of r ++ drop 22 fields
unfolding record_fields
stored_by line1 line2 r fields e h = rw (e, le-ltb (length fields) 22 h)

enough : (fields ns : List ℤ) → 22 ≤ length fields → cond (ltb (length fields) 22) fields (ns ++ drop 22 fields) ≡ ns ++ drop 22 fields
enough fields ns h = rw (le-ltb (length fields) 22 h)

pub records_return : RecordsReturn
records_return line1 line2 r fields out e h l =
    let k = accepted_are_legal line1 line2 r e in
    let same = stored_by line1 line2 r fields e h ∙ sym (accepted_stored line1 line2 r e fields ∙ enough fields (numbers_of r) h) in
    writes_back r (record_fields (read_of line1 line2) fields) out (ap given_of same ∙ stored_is_given r fields k h) k l

-- ── numbers of which a line was written ──

abbrev Legal : List ℕ → Result Record GivenRefusal → Type 0
Legal out g = (r : Record) × (g ≡ Ok r) × (legal r ≡ true) × (69 ≤ length out)

answered_by : (b l m : Bool) → line_answer (cond b (number_of (cond l (cond m (Ok tt) (Err writing.Short)) (Err writing.Illegal))) 16) ≡ answer 0 0 0 69 → (l ≡ true) × (m ≡ true)
unfolding line_answer answer
answered_by true true true e = (refl, refl)
answered_by true true false e = absurd (omega arith)
answered_by true false m e = absurd (omega arith)
answered_by false l m e = absurd (omega arith)

answered : (g : Result Record GivenRefusal) (line : ℕ) (out : List ℕ) → write_answer g line out ≡ answer 0 0 0 69 → Legal out g
unfolding write_answer line_refusal writing_of answer
answered (Ok r) line out e =
    let a = answered_by (eqb line 1 || eqb line 2) (legal r) (leb 69 (length out)) e in
    (r, refl, a.0, leb-true 69 (length out) a.1)
answered (Err given_refusal.NoClass) line out e = absurd (omega arith)
answered (Err given_refusal.TooShort) line out e = absurd (omega arith)

front : (which : Line) (r : Record) (out : List ℕ) → take 69 (line_of which r ++ drop 69 out) ≡ line_of which r
front which r out = take_at (line_of which r) (drop 69 out) 69 (length_line which r)

pub numbers_return : NumbersReturn
numbers_return fields room line out e h =
    let a = answered (given_of fields) line out e in
    let r = a.0 in
    let w = writes_back r fields out a.1 a.2 a.3 in
    let one = ap (take 69) w.line1 ∙ front One r out in
    let two = ap (take 69) w.line2 ∙ front Two r out in
    ap (λ l. record_fields (read_of l (take 69 (write_out (given_of fields) 2 out))) room) one ∙ ap (λ l. record_fields (read_of (line_of One r) l) room) two
    ∙ stored_by (line_of One r) (line_of Two r) r room w.reads h ∙ sym (ap (λ l. l ++ drop 22 room) (given_is_stored r fields a.1 a.2))
