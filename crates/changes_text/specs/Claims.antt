-- What is claimed of a listing's text. Proved in proofs/Told.antt and proofs/Lengths.antt.
use Rattle.std.specs.Prelude.{ℕ, ◌≤◌, ◌≡◌, List, length}
use Rattle.std.proofs.Math.Option.{some}
use Rattle.tle.specs.declared.Record.{Record}
use Rattle.roster.specs.Records.{Rising}
use Rattle.roster.specs.Roster.{roster_of}
use Rattle.changes.specs.Changes.{listed}
use Rattle.changes_text.specs.Text.{spelled}

-- the text alone tells the changes: two lists of changes of rosters with the same text are the same list
abbrev pub TextTells : Type 0
TextTells = (xs bs ys ds : List Record) → Rising 0 xs → Rising 0 bs → Rising 0 ys → Rising 0 ds
    → spelled (listed xs bs) ≡ spelled (listed ys ds) → listed xs bs ≡ listed ys ds

-- so the first roster and the text tell the second: no other buffer has that listing against the first
abbrev pub ListingTells : Type 0
ListingTells = (a b c : List ℕ) (xs bs ds : List Record) → roster_of a ≡ some xs → roster_of b ≡ some bs → roster_of c ≡ some ds
    → spelled (listed xs bs) ≡ spelled (listed xs ds) → b ≡ c

-- the room that is never too short: 64 pairs in both rosters, and each of the fifteen fields as long as it can be
abbrev pub most_room : ℕ
most_room = 24448

abbrev pub ListingsFit : Type 0
ListingsFit = (xs bs : List Record) → Rising 0 xs → Rising 0 bs → length xs ≤ 64 → length bs ≤ 64 → length (spelled (listed xs bs)) ≤ most_room
