-- What is claimed of rosters and their rows. Proved in proofs/Decode.antt and proofs/Rows.antt.
use Rattle.std.specs.Prelude.{ℕ, ◌*◌, ◌<◌, ◌≤◌, ◌≡◌, ◌↔◌, List, length, take, drop, Ok, Result}
use Rattle.std.proofs.Math.Option.{some}
use Rattle.std.proofs.Math.ListN.{get_elem?}
use Rattle.tle.specs.Read.{read_of}
use Rattle.tle.specs.declared.Record.{Record}
use Rattle.tle.specs.declared.Refusal.{Refusal}
use Rattle.roster.specs.Records.{Rising, instant_of}
use Rattle.roster.specs.Roster.{bytes_of, roster_of}
use Rattle.roster.specs.Row.{row_of, roster_with}

-- the bytes of at most 64 legal records by rising number hold that roster, and a buffer that holds one has exactly its bytes
abbrev pub RostersExactly : Type 0
RostersExactly = (b : List ℕ) (rs : List Record) → (roster_of b ≡ some rs) ↔ ((b ≡ bytes_of rs) × Rising 0 rs × (length rs ≤ 64))

-- the same of a buffer and the row beside it: the row is the roster's own, and no other
abbrev pub RowsExactly : Type 0
RowsExactly = (b row : List ℕ) (rs : List Record) → (roster_with b row ≡ some rs) ↔ ((roster_of b ≡ some rs) × (row ≡ row_of rs))

-- what reading the two lines in place i gives
abbrev pub read_at : ℕ → List ℕ → Result Record Refusal
read_at i b = let p = drop (i * 138) b in read_of (take 69 p) (take 69 (drop 69 p))

-- demand 2: what stands in a place of a roster, read, is its record
abbrev pub PlacesRead : Type 0
PlacesRead = (b : List ℕ) (rs : List Record) (i : ℕ) (r : Record) → roster_of b ≡ some rs → get_elem? rs i ≡ some r → read_at i b ≡ Ok r

-- wish 8: an instant of the row is "what reading that pair would give", and the places past the last pair have 0
abbrev pub RowsRead : Type 0
RowsRead =
    (b row : List ℕ) (rs : List Record) (i : ℕ) (r : Record) → roster_with b row ≡ some rs → get_elem? rs i ≡ some r
    → (read_at i b ≡ Ok r) × (get_elem? row i ≡ some (instant_of r))

abbrev pub RowsEnd : Type 0
RowsEnd = (b row : List ℕ) (rs : List Record) (i : ℕ) → roster_with b row ≡ some rs → length rs ≤ i → i < 64 → get_elem? row i ≡ some 0
