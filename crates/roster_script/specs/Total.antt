-- Document 02, wish 2: "Total kept, from an empty roster over any calls: the numbers lodged and not since withdrawn are exactly
-- those present, each with the pair last accepted for it." Wish 8: of the row beside the roster too, and over calls that fill it.
-- Definitions only; the theorems are `total` and `total_filled` of proofs/Totals.
use Rattle.std.specs.Prelude.{ℕ, ◌≡◌, cond, ◌↔◌, List, [], ◌∷◌, ◌++◌, eqb, length, replicate, Ok}
use Rattle.std.proofs.Math.Option.{some}
use Rattle.tle.specs.Read.{read_of}
use Rattle.tle.specs.declared.Record.{Record}
use Rattle.roster.specs.Records.{lookup}
use Rattle.roster.specs.Roster.{roster_of}
use Rattle.roster.specs.Row.{row_of}
use Rattle.roster_calls.specs.Calls.{lodging_number, lodging_of, lodged_over, lodged_row, withdrawal_number, withdrawal_of, withdrawn_over, withdrawn_row, filling_number, filling_of, filled_row}

-- ── a sequence of calls ──

pub data Call : Type 0 where
  Lodge : List ℕ → List ℕ → Call
  Withdraw : ℕ → Call
  Fill : Call

-- the lent memory: the roster's buffer and the row beside it
pub record Lent : Type 0 where
  pub buffer : List ℕ
  pub row : List ℕ

abbrev pub lent : List ℕ → List ℕ → Lent
lent b row = record { buffer = b; row = row }

-- the number of a call's answer, and all of the lent memory afterwards, in the words of the three functions' contracts
abbrev pub answer_to : Lent → Call → ℕ
answer_to m (Lodge line1 line2) = lodging_number (lodging_of m.buffer m.row line1 line2)
answer_to m (Withdraw n) = withdrawal_number (withdrawal_of m.buffer m.row n)
answer_to m Fill = filling_number (filling_of m.buffer m.row)

abbrev pub after : Lent → Call → Lent
after m (Lodge line1 line2) = lent (lodged_over m.buffer m.row line1 line2) (lodged_row m.buffer m.row line1 line2)
after m (Withdraw n) = lent (withdrawn_over m.buffer m.row n) (withdrawn_row m.buffer m.row n)
after m Fill = lent m.buffer (filled_row m.buffer m.row)

-- each call gets the memory that the last one left
abbrev pub answers_to : Lent → List Call → List ℕ
answers_to m [] = []
answers_to m (c ∷ cs) = answer_to m c ∷ answers_to (after m c) cs

abbrev pub after_all : Lent → List Call → Lent
after_all m [] = m
after_all m (c ∷ cs) = after_all (after m c) cs

-- the empty roster, with a row
abbrev pub empty_with : List ℕ → Lent
empty_with row = lent (replicate 8832 0) row

-- with its own
abbrev pub empty : Lent
empty = empty_with (replicate 64 0)

-- ── their history ──

-- the calls that were accepted, which is answered with 0, in their order
abbrev pub accepted : List Call → List ℕ → List Call
accepted [] numbers = []
accepted (c ∷ cs) [] = []
accepted (c ∷ cs) (a ∷ numbers) = cond (eqb a 0) (c ∷ accepted cs numbers) (accepted cs numbers)

-- a call lodges the pair r, or withdraws the number n
abbrev pub Lodges : Record → Call → Type 0
Lodges r (Lodge line1 line2) = read_of line1 line2 ≡ Ok r
Lodges r (Withdraw n) = ⊥
Lodges r Fill = ⊥

abbrev pub Withdraws : ℕ → Call → Type 0
Withdraws n (Lodge line1 line2) = ⊥
Withdraws n (Withdraw m) = m ≡ n
Withdraws n Fill = ⊥

-- no call of a list is such a one
abbrev pub NoCall : (Call → Type 0) → List Call → Type 0
NoCall Such [] = Unit {0}
NoCall Such (c ∷ cs) = (Such c → ⊥) × NoCall Such cs

-- the history h has a lodging of r, and `later` after it
pub record LodgedIn (h : List Call) (r : Record) (later : List Call) : Type 0 where
  pub earlier : List Call
  pub call : Call
  pub lodges : Lodges r call
  pub order : h ≡ earlier ++ call ∷ later

-- "lodged and not since withdrawn"
pub record NotSinceWithdrawn (n : ℕ) (h : List Call) : Type 0 where
  pub pair : Record
  pub later : List Call
  pub number : pair.number ≡ n
  pub lodged : LodgedIn h pair later
  pub since : NoCall (Withdraws n) later

-- "the pair last accepted for it"
pub record LastAccepted (n : ℕ) (r : Record) (h : List Call) : Type 0 where
  pub later : List Call
  pub number : r.number ≡ n
  pub lodged : LodgedIn h r later
  pub last : (s : Record) → s.number ≡ n → NoCall (Lodges s) later

-- ── the claim ──

-- of the memory m and the history h that led to it:
--   roster    the buffer is a roster, of these records
--   row       the row is that roster's own
--   present   it has a pair of a number exactly if an accepted lodging of it was not followed by an accepted withdrawal of it
--   pairs     and then it is the pair last accepted for it
pub record Total (m : Lent) (h : List Call) : Type 0 where
  pub records : List Record
  pub roster : roster_of m.buffer ≡ some records
  pub row : m.row ≡ row_of records
  pub present : (n : ℕ) → ((r : Record) × (lookup n records ≡ some r)) ↔ NotSinceWithdrawn n h
  pub pairs : (n : ℕ) (r : Record) → lookup n records ≡ some r → LastAccepted n r h

-- of every sequence of calls from an empty roster with its row
abbrev pub TotalKept : Type 0
TotalKept = (cs : List Call) → Total (after_all empty cs) (accepted cs (answers_to empty cs))

-- and with any row of 64, where the first call fills it
abbrev pub TotalFilled : Type 0
TotalFilled =
    (row : List ℕ) (cs : List Call) → length row ≡ 64
    → Total (after_all (empty_with row) (Fill ∷ cs)) (accepted (Fill ∷ cs) (answers_to (empty_with row) (Fill ∷ cs)))
