-- Document 01, "Refusal numbers": writing refuses with 16, then 17; else the line stands at the front of the lent room,
-- and what lies past it stays.
use Rattle.std.specs.Prelude.{ℕ, List, ◌++◌, cond, ◌≡◌, leb, length, drop, Err, Ok, Result}
use denote.Ref.{MutBor, at_last}
use Rattle.tle.specs.Legal.{legal}
use Rattle.tle.specs.declared.Record.{Record}
use Rattle.tle.specs.declared.Line.{Line}
use Rattle.tle_writer.specs.Lines.{line_of}
use Rattle.tle_writer.specs.declared.WritingRefusal.{WritingRefusal}
use Rattle.tle_writer.specs.declared.WritingRefusal.TheVariants as writing

-- the number of each answer; nothing comes back with it
abbrev pub number_of : Result (Unit {0}) WritingRefusal → ℕ
number_of (Ok tt) = 0
number_of (Err writing.Illegal) = 16
number_of (Err writing.Short) = 17

-- the answer, by the record and the room: the record is judged as a whole, whichever line is to be written
unfoldable pub writing_of : Record → List ℕ → Result (Unit {0}) WritingRefusal
writing_of r out = cond (legal r) (cond (leb 69 (length out)) (Ok tt) (Err writing.Short)) (Err writing.Illegal)

-- what an answer makes of the room: the line at its front, or nothing
abbrev pub after : Result (Unit {0}) WritingRefusal → List ℕ → List ℕ → List ℕ
after (Ok tt) line out = line ++ drop 69 out
after (Err writing.Illegal) line out = out
after (Err writing.Short) line out = out

-- all of the room afterwards
unfoldable pub written_over : Record → Line → List ℕ → List ℕ
written_over r which out = after (writing_of r out) (line_of which r) out

-- the part p of the room out that holds a line just written: its bytes, that it begins where the room begins, and where the
-- room is exactly one line, that it is this room, with the line in it
pub record Front (line : List ℕ) (out p : MutBor (List ℕ)) : Type 0 where
  pub bytes : p.now ≡ line
  pub begins : p.ref_ptr ≡ out.ref_ptr
  pub whole : length out.now ≡ 69 → p ≡ at_last out line

-- what an answer hands back of the room out: the line's part, or after a refusal the room as it was lent, with all its bytes
abbrev pub Handed : Result (Unit {0}) WritingRefusal → List ℕ → MutBor (List ℕ) → MutBor (List ℕ) → Type 0
Handed (Ok tt) line out p = Front line out p
Handed (Err writing.Illegal) line out p = p ≡ out
Handed (Err writing.Short) line out p = p ≡ out
