-- The way of a record through lent memory, there and back. Claims: proved in proofs/Trips.
use Rattle.std.specs.Prelude.{ℕ, ◌≤◌, ◌≡◌, List, ◌++◌, ℤ, length, take, drop, Ok}
use Rattle.tle.specs.Read.{read_of}
use Rattle.tle.specs.declared.Line.TheVariants.{One, Two}
use Rattle.tle.specs.declared.Record.{Record}
use Rattle.tle_writer.specs.Lines.{line_of}
use Rattle.record_numbers.specs.Numbers.{given_of}
use Rattle.answers.specs.Answer.{answer}
use Rattle.lent_pairs.specs.Records.{record_fields, write_answer, write_out}

-- the numbers `fields` hold the record r: `saddlekerf_write` answers both its lines, in the writer's spelling, and reading those gives r
pub record WritesBack (r : Record) (fields : List ℤ) (out : List ℕ) : Type 0 where
  pub answer1 : write_answer (given_of fields) 1 out ≡ answer 0 0 0 69
  pub line1 : write_out (given_of fields) 1 out ≡ line_of One r ++ drop 69 out
  pub answer2 : write_answer (given_of fields) 2 out ≡ answer 0 0 0 69
  pub line2 : write_out (given_of fields) 2 out ≡ line_of Two r ++ drop 69 out
  pub reads : read_of (line_of One r) (line_of Two r) ≡ Ok r

-- what `saddlekerf_record` stores of accepted lines is written back
abbrev pub RecordsReturn : Type 0
RecordsReturn =
    (line1 line2 : List ℕ) (r : Record) (fields : List ℤ) (out : List ℕ) → read_of line1 line2 ≡ Ok r → 22 ≤ length fields → 69 ≤ length out
    → WritesBack r (record_fields (read_of line1 line2) fields) out

-- the 22 numbers of which `saddlekerf_write` wrote a line are what `saddlekerf_record` stores of the two lines written
abbrev pub NumbersReturn : Type 0
NumbersReturn =
    (fields room : List ℤ) (line : ℕ) (out : List ℕ) → write_answer (given_of fields) line out ≡ answer 0 0 0 69 → 22 ≤ length room
    → record_fields (read_of (take 69 (write_out (given_of fields) 1 out)) (take 69 (write_out (given_of fields) 2 out))) room ≡ take 22 fields ++ drop 22 room
