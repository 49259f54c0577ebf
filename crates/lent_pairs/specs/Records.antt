-- A record in memory that is lent: stored there from two lines, and written from there as a line. Definitions only.
use Rattle.std.specs.Prelude.{ℕ, cond, ◌||◌, List, ◌++◌, eqb, ltb, ℤ, length, drop, Err, Ok, Result}
use Rattle.tle.specs.declared.Line.TheVariants.{One, Two}
use Rattle.tle.specs.declared.Record.{Record}
use Rattle.tle.specs.declared.Refusal.{Refusal}
use Rattle.record_numbers.specs.declared.GivenRefusal.{GivenRefusal}
use Rattle.record_numbers.specs.declared.GivenRefusal.TheVariants as given_refusal
use Rattle.tle_writer.specs.Write.{number_of, writing_of, written_over}
use Rattle.record_numbers.specs.Numbers.{numbers_of}
use Rattle.answers.specs.Answer.{answer}
use Rattle.answers.specs.Refusals.{refusal_answer}

-- ── stored: 1 to 6 with their values, then 17; a refused call writes nothing ──

-- of memory with n numbers
unfoldable pub record_answer : Result Record Refusal → ℕ → ℕ
record_answer (Ok r) n = answer (cond (ltb n 22) 17 0) 0 0 0
record_answer (Err why) n = refusal_answer why

-- what lies past a record's numbers stays
unfoldable pub record_fields : Result Record Refusal → List ℤ → List ℤ
record_fields (Ok r) fields = cond (ltb (length fields) 22) fields (numbers_of r ++ drop 22 fields)
record_fields (Err why) fields = fields

-- ── written: "16, 17"; fewer numbers than a record has are lent memory too short, 17 ──

-- no record has a line but 1 and 2
unfoldable pub line_refusal : Record → ℕ → List ℕ → ℕ
line_refusal r line out = cond (eqb line 1 || eqb line 2) (number_of (writing_of r out)) 16

unfoldable pub line_over : Record → ℕ → List ℕ → List ℕ
line_over r line out = cond (eqb line 1) (written_over r One out) (cond (eqb line 2) (written_over r Two out) out)

-- the bytes written are a line's 69
unfoldable pub line_answer : ℕ → ℕ
line_answer refusal = cond (eqb refusal 0) (answer 0 0 0 69) (answer refusal 0 0 0)

unfoldable pub write_answer : Result Record GivenRefusal → ℕ → List ℕ → ℕ
write_answer (Ok r) line out = line_answer (line_refusal r line out)
write_answer (Err given_refusal.NoClass) line out = answer 16 0 0 0
write_answer (Err given_refusal.TooShort) line out = answer 17 0 0 0

-- all of the room afterwards
unfoldable pub write_out : Result Record GivenRefusal → ℕ → List ℕ → List ℕ
write_out (Ok r) line out = line_over r line out
write_out (Err given_refusal.NoClass) line out = out
write_out (Err given_refusal.TooShort) line out = out
