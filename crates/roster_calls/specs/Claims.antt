-- What is claimed of the calls on a roster and its row. Proved in proofs/Kept.antt.
use Rattle.std.specs.Prelude.{ℕ, ◌<◌, ◌≡◌, ◌↔◌, List, length, Err, Ok}
use Rattle.std.proofs.Math.Option.{some}
use Rattle.tle.specs.Read.{read_of}
use Rattle.tle.specs.declared.Record.{Record}
use Rattle.tle.specs.declared.Refusal.{Refusal}
use Rattle.roster_calls.specs.declared.LodgingRefusal.TheVariants as lodging
use Rattle.roster.specs.Records.{lodged, withdrawn}
use Rattle.roster.specs.Roster.{roster_of}
use Rattle.roster.specs.Row.{roster_with}
use Rattle.roster.specs.Claims.{read_at}
use Rattle.roster_calls.specs.Calls.{lodging_of, lodged_over, lodged_row, withdrawal_of, withdrawn_over, withdrawn_row, filling_of, filled_row}

-- "Refusals, after those of reading": where reading refuses the lines, and only there, its refusal comes back
abbrev pub ReadingFirst : Type 0
ReadingFirst = (b row line1 line2 : List ℕ) (why : Refusal) → (lodging_of b row line1 line2 ≡ Err (lodging.Unread why)) ↔ (read_of line1 line2 ≡ Err why)

-- each call keeps a roster a roster and its row the row: of the records after an accepted call, and after a refused one both as they were
abbrev pub LodgingKeeps : Type 0
LodgingKeeps =
    (b row line1 line2 : List ℕ) (rs : List Record) (r : Record) → roster_with b row ≡ some rs → read_of line1 line2 ≡ Ok r
    → lodging_of b row line1 line2 ≡ Ok tt → roster_with (lodged_over b row line1 line2) (lodged_row b row line1 line2) ≡ some (lodged r rs)

abbrev pub RefusedLodging : Type 0
RefusedLodging =
    (b row line1 line2 : List ℕ) → (lodging_of b row line1 line2 ≡ Ok tt → ⊥)
    → (lodged_over b row line1 line2 ≡ b) × (lodged_row b row line1 line2 ≡ row)

abbrev pub WithdrawingKeeps : Type 0
WithdrawingKeeps =
    (b row : List ℕ) (n : ℕ) (rs : List Record) → roster_with b row ≡ some rs
    → withdrawal_of b row n ≡ Ok tt → roster_with (withdrawn_over b row n) (withdrawn_row b row n) ≡ some (withdrawn n rs)

abbrev pub RefusedWithdrawing : Type 0
RefusedWithdrawing =
    (b row : List ℕ) (n : ℕ) → (withdrawal_of b row n ≡ Ok tt → ⊥) → (withdrawn_over b row n ≡ b) × (withdrawn_row b row n ≡ row)

-- the row of a roster is filled "whatever the row held", and is then its own
abbrev pub FillingKeeps : Type 0
FillingKeeps =
    (b row : List ℕ) (rs : List Record) → roster_of b ≡ some rs → length row ≡ 64
    → (filling_of b row ≡ Ok tt) × (roster_with b (filled_row b row) ≡ some rs)

abbrev pub RefusedFilling : Type 0
RefusedFilling = (b row : List ℕ) → (filling_of b row ≡ Ok tt → ⊥) → filled_row b row ≡ row

-- demand 2: after an accepted lodging a place, read, gives the record that the lines gave
abbrev pub LodgedReads : Type 0
LodgedReads =
    (b row line1 line2 : List ℕ) → lodging_of b row line1 line2 ≡ Ok tt
    → (i : ℕ) × (i < 64) × (read_at i (lodged_over b row line1 line2) ≡ read_of line1 line2)
