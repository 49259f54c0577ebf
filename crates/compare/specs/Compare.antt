-- Document 02, wish 7: what comparing two rosters answers, and all of the lent room afterwards.
use Rattle.std.specs.Prelude.{ℕ, cond, List, leb, length, Err, Ok, Result}
use Rattle.std.proofs.Math.Option.{Option, none, some}
use Rattle.text.specs.Output.{fronted}
use Rattle.tle.specs.declared.Record.{Record}
use Rattle.changes.specs.Changes.{listed}
use Rattle.changes_text.specs.Text.{spelled}
use Rattle.compare.specs.declared.Which.TheVariants as which
use Rattle.compare.specs.declared.CompareRefusal.{CompareRefusal}
use Rattle.compare.specs.declared.CompareRefusal.TheVariants as compared

-- the number of each answer
abbrev pub compared_number : Result ℕ CompareRefusal → ℕ
compared_number (Ok n) = 0
compared_number (Err (compared.NoRoster which)) = 22
compared_number (Err compared.RoomTooShort) = 17

-- the listing of two rosters
abbrev pub text_of : List Record → List Record → List ℕ
text_of xs bs = spelled (listed xs bs)

abbrev pub written_in : ℕ → List ℕ → Result ℕ CompareRefusal
written_in room text = cond (leb (length text) room) (Ok (length text)) (Err compared.RoomTooShort)

-- "22 for either roster, naming which, the first looked at first, then 17 for the listing's room"; the rosters are those found
abbrev pub compared_of : Option (List Record) → Option (List Record) → ℕ → Result ℕ CompareRefusal
compared_of none o room = Err (compared.NoRoster which.First)
compared_of (some xs) none room = Err (compared.NoRoster which.Second)
compared_of (some xs) (some bs) room = written_in room (text_of xs bs)

-- "the listing goes into its room as 01 writes a line": at the front, and what lies past it stays; a refused call writes nothing
abbrev pub compared_over : Option (List Record) → Option (List Record) → List ℕ → List ℕ
compared_over none o out = out
compared_over (some xs) none out = out
compared_over (some xs) (some bs) out = fronted (text_of xs bs) out
