-- What is claimed of a printed pair. Proved in proofs/Lengths.antt, proofs/Kept.antt and proofs/Epochs.antt.
use Rattle.std.specs.Prelude.{ℕ, ◌≤◌, ◌≡◌, true, List, length, Result, Some}
use Rattle.text.specs.Output.{decimal}
use Rattle.text.specs.Input.{kept, started, fed}
use Rattle.instant.specs.Calendar.{epoch_micros, date_of}
use Rattle.instant.specs.declared.Date.{Date}
use Rattle.tle.specs.declared.Refusal.{Refusal}
use Rattle.tle.specs.Legal.{legal}
use Rattle.tle.specs.Read.{read_of}
use Rattle.tle.specs.declared.Record.{Record}
use Rattle.listing.specs.Listing.{then, epoch_text, reading_text, lines_text, pair_text}

-- a room of 900 bytes is never too short
abbrev pub TextsFit : Type 0
TextsFit = (x : Result Record Refusal) → length (reading_text x) ≤ 900

-- the first 70 bytes of each line decide what reading gives
abbrev pub SeventyDecide : Type 0
SeventyDecide = (a b : List ℕ) → read_of (kept a) (kept b) ≡ read_of a b

-- the lines kept of a whole input, in whatever pieces it came, print as the pair of that input
abbrev pub FedPrintsWhole : Type 0
FedPrintsWhole = (input : List ℕ) → lines_text (fed started input) ≡ pair_text input

-- document 02, wish 3: the epoch that is printed of a legal record is the date of its instant
abbrev pub EpochsAsDated : Type 0
EpochsAsDated =
    (r : Record) (d : Date) → legal r ≡ true → date_of (epoch_micros r.year r.day) ≡ Some d
    → epoch_text r.year r.day ≡ then (decimal d.year) (then (decimal d.day) (decimal d.micros))
