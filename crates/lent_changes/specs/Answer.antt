-- Two rosters in memory that is lent, compared: the one number that C and Rust get.
use Rattle.std.specs.Prelude.{ℕ, ◌≤◌, Err, Ok, Result}
use Rattle.compare.specs.declared.Which.{Which}
use Rattle.compare.specs.declared.Which.TheVariants as which
use Rattle.compare.specs.declared.CompareRefusal.{CompareRefusal}
use Rattle.compare.specs.declared.CompareRefusal.TheVariants as compared
use Rattle.changes_text.specs.Claims.{most_room}
use Rattle.answers.specs.Answer.{answer}

abbrev pub which_number : Which → ℕ
which_number which.First = 1
which_number which.Second = 2

-- the bytes written; 22 with the roster, 1 or 2; 17
unfoldable pub compared_answer : Result ℕ CompareRefusal → ℕ
compared_answer (Ok n) = answer 0 0 0 n
compared_answer (Err (compared.NoRoster which)) = answer 22 (which_number which) 0 0
compared_answer (Err compared.RoomTooShort) = answer 17 0 0 0

-- the bytes written fit their bits
abbrev pub WrittenFits : Result ℕ CompareRefusal → Type 0
WrittenFits (Ok n) = n ≤ most_room
WrittenFits (Err (compared.NoRoster which)) = Unit {0}
WrittenFits (Err compared.RoomTooShort) = Unit {0}
