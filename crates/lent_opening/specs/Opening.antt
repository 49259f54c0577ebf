-- Two lines opened into memory that is lent. Definitions only.
use Rattle.std.specs.Prelude.{ℕ, List, Float, Err, Ok, Result}
use Rattle.opening.specs.declared.opening.Satellite.{Satellite}
use Rattle.opening.specs.declared.opening.PairRefusal.{PairRefusal}
use Rattle.opening.specs.declared.opening.PairRefusal.TheVariants as pair
use Rattle.opening.specs.Opening.{number}
use Rattle.storage.specs.Storage.{store_refusal, stored_numbers, stored_marks}
use Rattle.answers.specs.Answer.{answer}
use Rattle.answers.specs.Refusals.{refusal_answer}

-- 1 to 6 with their values, 7, 8 (16 is never given for lines), then 17; a refused call writes nothing; of memory with n numbers and m marks
unfoldable pub open_answer : Result Satellite PairRefusal → ℕ → ℕ → ℕ
open_answer (Ok s) n m = answer (store_refusal n m) 0 0 0
open_answer (Err (pair.Unread why)) n m = refusal_answer why
open_answer (Err (pair.Refused why)) n m = answer (number why) 0 0 0

unfoldable pub open_numbers : Result Satellite PairRefusal → List Float → List ℕ → List Float
open_numbers (Ok s) ns ms = stored_numbers s ns ms
open_numbers (Err (pair.Unread why)) ns ms = ns
open_numbers (Err (pair.Refused why)) ns ms = ns

unfoldable pub open_marks : Result Satellite PairRefusal → List Float → List ℕ → List ℕ
open_marks (Ok s) ns ms = stored_marks s ns ms
open_marks (Err (pair.Unread why)) ns ms = ms
open_marks (Err (pair.Refused why)) ns ms = ms
