-- Document 02, wishes 2 and 8: what the calls answer, and all of the buffer and of the row beside it afterwards.
use Rattle.std.specs.Prelude.{ℕ, Bool, cond, List, eqb, leb, ltb, length, Err, Ok, Result}
use Rattle.std.proofs.Math.Option.{Option, none, some}
use Rattle.tle.specs.Read.{read_of}
use Rattle.tle.specs.Refusals.{Values, nothing, number_of, values_of}
use Rattle.tle.specs.declared.Record.{Record}
use Rattle.roster_calls.specs.declared.LodgingRefusal.{LodgingRefusal}
use Rattle.roster_calls.specs.declared.LodgingRefusal.TheVariants as lodging
use Rattle.roster_calls.specs.declared.WithdrawalRefusal.{WithdrawalRefusal}
use Rattle.roster_calls.specs.declared.WithdrawalRefusal.TheVariants as withdrawal
use Rattle.roster_calls.specs.declared.FillingRefusal.{FillingRefusal}
use Rattle.roster_calls.specs.declared.FillingRefusal.TheVariants as filling
use Rattle.tle.specs.declared.Refusal.{Refusal}
use Rattle.roster.specs.Records.{lookup, instant_of, lodged, withdrawn}
use Rattle.roster.specs.Roster.{bytes_of, roster_of}
use Rattle.roster.specs.Row.{row_of, roster_with}

-- ── the number of each answer, and what comes back with it: with 19 to 22 nothing ──

abbrev pub lodging_number : Result (Unit {0}) LodgingRefusal → ℕ
lodging_number (Ok tt) = 0
lodging_number (Err (lodging.Unread why)) = number_of why
lodging_number (Err lodging.NoRoster) = 22
lodging_number (Err lodging.Older) = 20
lodging_number (Err lodging.Full) = 19

abbrev pub lodging_values : Result (Unit {0}) LodgingRefusal → Values
lodging_values (Ok tt) = nothing
lodging_values (Err (lodging.Unread why)) = values_of why
lodging_values (Err lodging.NoRoster) = nothing
lodging_values (Err lodging.Older) = nothing
lodging_values (Err lodging.Full) = nothing

abbrev pub withdrawal_number : Result (Unit {0}) WithdrawalRefusal → ℕ
withdrawal_number (Ok tt) = 0
withdrawal_number (Err withdrawal.NoRoster) = 22
withdrawal_number (Err withdrawal.Absent) = 21

abbrev pub filling_number : Result (Unit {0}) FillingRefusal → ℕ
filling_number (Ok tt) = 0
filling_number (Err filling.NoRoster) = 22

-- ── lodging ──

-- "replaces the one of that number unless its epoch is older"; "19 all 64 places hold other numbers"
abbrev pub ruled_by : Record → List Record → Option Record → Result (Unit {0}) LodgingRefusal
ruled_by r rs (some old) = cond (ltb (instant_of r) (instant_of old)) (Err lodging.Older) (Ok tt)
ruled_by r rs none = cond (leb 64 (length rs)) (Err lodging.Full) (Ok tt)

abbrev pub ruling : Record → List Record → Result (Unit {0}) LodgingRefusal
ruling r rs = ruled_by r rs (lookup r.number rs)

-- "after those of reading, in this order: 22 .., 20 .., 19"
abbrev pub answered : Result Record Refusal → Option (List Record) → Result (Unit {0}) LodgingRefusal
answered (Err why) rs = Err (lodging.Unread why)
answered (Ok r) none = (Err lodging.NoRoster)
answered (Ok r) (some rs) = ruling r rs

-- "All other roster entries .. take each roster's row"
unfoldable pub lodging_of : List ℕ → List ℕ → List ℕ → List ℕ → Result (Unit {0}) LodgingRefusal
lodging_of b row line1 line2 = answered (read_of line1 line2) (roster_with b row)

-- a refusal "leaves the buffer unchanged", and the row
abbrev pub when_lodged : Result (Unit {0}) LodgingRefusal → List ℕ → List ℕ → List ℕ
when_lodged (Ok tt) new b = new
when_lodged (Err (lodging.Unread why)) new b = b
when_lodged (Err lodging.NoRoster) new b = b
when_lodged (Err lodging.Older) new b = b
when_lodged (Err lodging.Full) new b = b

-- lent memory b after lodging; `held` is how such memory holds records
abbrev pub lodged_by : (List Record → List ℕ) → Result Record Refusal → Option (List Record) → List ℕ → List ℕ
lodged_by held (Err why) rs b = b
lodged_by held (Ok r) none b = b
lodged_by held (Ok r) (some rs) b = when_lodged (ruling r rs) (held (lodged r rs)) b

unfoldable pub lodged_over : List ℕ → List ℕ → List ℕ → List ℕ → List ℕ
lodged_over b row line1 line2 = lodged_by bytes_of (read_of line1 line2) (roster_with b row) b

unfoldable pub lodged_row : List ℕ → List ℕ → List ℕ → List ℕ → List ℕ
lodged_row b row line1 line2 = lodged_by row_of (read_of line1 line2) (roster_with b row) row

-- ── withdrawing: "22 .., 21 nothing to withdraw" ──

abbrev pub found_by : Option Record → Result (Unit {0}) WithdrawalRefusal
found_by (some r) = (Ok tt)
found_by none = (Err withdrawal.Absent)

abbrev pub leaving : ℕ → Option (List Record) → Result (Unit {0}) WithdrawalRefusal
leaving n none = (Err withdrawal.NoRoster)
leaving n (some rs) = found_by (lookup n rs)

unfoldable pub withdrawal_of : List ℕ → List ℕ → ℕ → Result (Unit {0}) WithdrawalRefusal
withdrawal_of b row n = leaving n (roster_with b row)

abbrev pub when_withdrawn : Result (Unit {0}) WithdrawalRefusal → List ℕ → List ℕ → List ℕ
when_withdrawn (Ok tt) new b = new
when_withdrawn (Err withdrawal.NoRoster) new b = b
when_withdrawn (Err withdrawal.Absent) new b = b

abbrev pub withdrawn_by : (List Record → List ℕ) → ℕ → Option (List Record) → List ℕ → List ℕ
withdrawn_by held n none b = b
withdrawn_by held n (some rs) b = when_withdrawn (found_by (lookup n rs)) (held (withdrawn n rs)) b

unfoldable pub withdrawn_over : List ℕ → List ℕ → ℕ → List ℕ
withdrawn_over b row n = withdrawn_by bytes_of n (roster_with b row) b

unfoldable pub withdrawn_row : List ℕ → List ℕ → ℕ → List ℕ
withdrawn_row b row n = withdrawn_by row_of n (roster_with b row) row

-- ── filling: "One new call fills the row for a roster kept without one, whatever the row held" ──

abbrev pub filled_by : Option (List Record) → Bool → Result (Unit {0}) FillingRefusal
filled_by none long = (Err filling.NoRoster)
filled_by (some rs) long = cond long (Ok tt) (Err filling.NoRoster)

abbrev pub filled_with : Option (List Record) → Bool → List ℕ → List ℕ
filled_with none long row = row
filled_with (some rs) long row = cond long (row_of rs) row

-- 22 for the buffer, and "when the row has another length"
unfoldable pub filling_of : List ℕ → List ℕ → Result (Unit {0}) FillingRefusal
filling_of b row = filled_by (roster_of b) (eqb (length row) 64)

unfoldable pub filled_row : List ℕ → List ℕ → List ℕ
filled_row b row = filled_with (roster_of b) (eqb (length row) 64) row
