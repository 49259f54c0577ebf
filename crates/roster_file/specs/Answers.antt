-- What is known of a call on a roster in a file. No contract says which bytes the file has; but the answer is that for the
-- bytes that were read, unless something failed, and a failure stays marked.
use Rattle.std.specs.Prelude.{ℕ, ◌≡◌, List, Bool, true, false, Result}
use Rattle.roster_calls.specs.declared.LodgingRefusal.{LodgingRefusal}
use Rattle.roster_calls.specs.declared.WithdrawalRefusal.{WithdrawalRefusal}
use Rattle.kept_roster.specs.Kept.{kept_lodging, kept_withdrawal}

pub record Lodges (failed : Bool) (line1 line2 : List ℕ) (failed' : Bool) (a : Result (Unit {0}) LodgingRefusal) : Type 0 where
  pub marked : failed ≡ true → failed' ≡ true
  pub answered : failed' ≡ false → (roster : List ℕ) × (a ≡ kept_lodging roster line1 line2)

pub record Withdraws (failed : Bool) (number : ℕ) (failed' : Bool) (a : Result (Unit {0}) WithdrawalRefusal) : Type 0 where
  pub marked : failed ≡ true → failed' ≡ true
  pub answered : failed' ≡ false → (roster : List ℕ) × (a ≡ kept_withdrawal roster number)
