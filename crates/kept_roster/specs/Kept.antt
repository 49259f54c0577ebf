-- The calls on a roster that is kept without its row: what they answer, and all of its bytes afterwards.
use Rattle.std.specs.Prelude.{ℕ, List, Result}
use Rattle.tle.specs.Read.{read_of}
use Rattle.roster.specs.Roster.{bytes_of, roster_of}
use Rattle.roster_calls.specs.Calls.{answered, lodged_by, leaving, withdrawn_by}
use Rattle.roster_calls.specs.declared.LodgingRefusal.{LodgingRefusal}
use Rattle.roster_calls.specs.declared.WithdrawalRefusal.{WithdrawalRefusal}

unfoldable pub kept_lodging : List ℕ → List ℕ → List ℕ → Result (Unit {0}) LodgingRefusal
kept_lodging b line1 line2 = answered (read_of line1 line2) (roster_of b)

unfoldable pub kept_lodged : List ℕ → List ℕ → List ℕ → List ℕ
kept_lodged b line1 line2 = lodged_by bytes_of (read_of line1 line2) (roster_of b) b

unfoldable pub kept_withdrawal : List ℕ → ℕ → Result (Unit {0}) WithdrawalRefusal
kept_withdrawal b n = leaving n (roster_of b)

unfoldable pub kept_withdrawn : List ℕ → ℕ → List ℕ
kept_withdrawn b n = withdrawn_by bytes_of n (roster_of b) b
