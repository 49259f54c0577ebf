-- What is claimed of comparing two rosters. Proved in proofs/Rooms.antt.
use Rattle.std.specs.Prelude.{ℕ, ◌≤◌, ◌≡◌, List, Err, Ok}
use Rattle.roster.specs.Row.{roster_with}
use Rattle.changes_text.specs.Claims.{most_room}
use Rattle.compare.specs.Compare.{compared_of}
use Rattle.compare.specs.declared.CompareRefusal.TheVariants as compared

-- a room of 24,448 bytes is never too short
abbrev pub RoomSuffices : Type 0
RoomSuffices = (a row1 b row2 : List ℕ) (room : ℕ) → most_room ≤ room → compared_of (roster_with a row1) (roster_with b row2) room ≡ Err compared.RoomTooShort → ⊥

-- and no more is ever written
abbrev pub WrittenBounded : Type 0
WrittenBounded = (a row1 b row2 : List ℕ) (room n : ℕ) → compared_of (roster_with a row1) (roster_with b row2) room ≡ Ok n → n ≤ most_room
