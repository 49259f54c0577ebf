-- What is answered of form and of meaning alone: document 02, wish 9. Definitions only.
use Rattle.std.specs.Prelude.{ℕ, List, ℤ, Err, None, Ok, Option, Result, Some}
use Rattle.tle.specs.declared.Fields.{Fields}
use Rattle.tle.specs.declared.Refusal.{Refusal}
use Rattle.tle.specs.declared.Record.{Record}
use Rattle.record_numbers.specs.Numbers.{fields_refusal, fields_over}
use Rattle.answers.specs.Answer.{answer}
use Rattle.answers.specs.Refusals.{refusal_answer, in_bits}

-- refusals 1 to 5 with their values, then 17, of memory with n numbers
unfoldable pub form_answer : Result Fields Refusal → ℕ → ℕ
form_answer (Ok f) n = answer (fields_refusal f n) 0 0 0
form_answer (Err why) n = refusal_answer why

-- the fields as numbers; what lies past them stays, and a refused call writes nothing
unfoldable pub form_fields : Result Fields Refusal → List ℤ → List ℤ
form_fields (Ok f) fields = fields_over f fields
form_fields (Err why) fields = fields

-- 17 for fewer than 22 numbers, then 16, then 6 with the field
unfoldable pub meaning_answer : Option (Result Record Refusal) → ℕ
meaning_answer (Some (Ok r)) = answer 0 0 0 0
meaning_answer (Some (Err why)) = refusal_answer why
meaning_answer None = answer 17 0 0 0

-- an answer of any reading, its column cut to its bits; the meaning of fields has no column
unfoldable pub cut_answer : Result Record Refusal → ℕ
cut_answer (Ok r) = answer 0 0 0 0
cut_answer (Err why) = refusal_answer (in_bits why)
