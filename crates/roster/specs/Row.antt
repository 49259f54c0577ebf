-- Document 02, wish 8: "a lent row of 64 instants, one for each place", and the roster that a buffer and its row hold together.
use Rattle.std.specs.Prelude.{ℕ, cond, List, [], ◌∷◌}
use Rattle.std.proofs.Math.Option.{Option, none, some}
use Rattle.tle.specs.declared.Record.{Record}
use Rattle.roster.specs.Packed.{packed}
use Rattle.roster.specs.Records.{instant_of}
use Rattle.roster.specs.Roster.{same, roster_of}

abbrev pub instant_at : Record → List ℕ
instant_at r = instant_of r ∷ []

-- the row that goes with a roster: "what reading that pair would give, and 0 past the last"
abbrev pub row_of : List Record → List ℕ
row_of rs = packed instant_at 1 64 rs

-- the records that were found, where the row is theirs
abbrev pub agreed : List ℕ → Option (List Record) → Option (List Record)
agreed row none = none
agreed row (some rs) = cond (same row (row_of rs)) (some rs) none

-- the records of a buffer that is a roster and of the row beside it: none "also when the row has another length or .. disagrees with the pairs"
unfoldable pub roster_with : List ℕ → List ℕ → Option (List Record)
roster_with b row = agreed row (roster_of b)
