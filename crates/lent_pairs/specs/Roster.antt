-- A roster in memory that is lent, with its row: a pair lodged there, a number withdrawn, and the row filled. Definitions only.
use Rattle.std.specs.Prelude.{ℕ, Err, Ok, Result}
use Rattle.roster_calls.specs.Calls.{withdrawal_number, filling_number}
use Rattle.roster_calls.specs.declared.LodgingRefusal.{LodgingRefusal}
use Rattle.roster_calls.specs.declared.LodgingRefusal.TheVariants as lodging
use Rattle.roster_calls.specs.declared.WithdrawalRefusal.{WithdrawalRefusal}
use Rattle.roster_calls.specs.declared.FillingRefusal.{FillingRefusal}
use Rattle.answers.specs.Answer.{answer}
use Rattle.answers.specs.Refusals.{refusal_answer, ColumnFits}

-- 1 to 6 with their values, then 22, 20, 19
unfoldable pub lodging_answer : Result (Unit {0}) LodgingRefusal → ℕ
lodging_answer (Ok tt) = answer 0 0 0 0
lodging_answer (Err (lodging.Unread why)) = refusal_answer why
lodging_answer (Err lodging.NoRoster) = answer 22 0 0 0
lodging_answer (Err lodging.Older) = answer 20 0 0 0
lodging_answer (Err lodging.Full) = answer 19 0 0 0

-- 22, then 21
unfoldable pub withdrawal_answer : Result (Unit {0}) WithdrawalRefusal → ℕ
withdrawal_answer w = answer (withdrawal_number w) 0 0 0

-- 22
unfoldable pub filling_answer : Result (Unit {0}) FillingRefusal → ℕ
filling_answer f = answer (filling_number f) 0 0 0

-- a column of a line, as ColumnFits
abbrev pub UnreadFits : Result (Unit {0}) LodgingRefusal → Type 0
UnreadFits (Ok tt) = Unit {0}
UnreadFits (Err (lodging.Unread why)) = ColumnFits why
UnreadFits (Err lodging.NoRoster) = Unit {0}
UnreadFits (Err lodging.Older) = Unit {0}
UnreadFits (Err lodging.Full) = Unit {0}
