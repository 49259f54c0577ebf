-- A whole script of calls run on a lent buffer and its row, and what specs/Total says of the memory that it leaves. Definitions only.
use Rattle.std.specs.Prelude.{ℕ, zero, suc, ◌+◌, ◌/◌, ◌≡◌, Bool, true, false, ◌&&◌, List, [], ◌∷◌, ◌++◌, leb, length, take, drop}
use Rattle.roster_script.specs.Total.{Call, Lodge, Withdraw, Fill, lent, answers_to, after_all, empty, accepted, Total}
use Rattle.roster_script.specs.declared.Ran.{Ran}
use Rattle.roster_script.specs.declared.Ran.TheVariants.{Done, Short}

-- ── the script ──

-- a call is three numbers: 0 and the lengths of two lines to lodge, which come next in the text; 1, a catalogue number to
-- withdraw, and one that is not looked at; or any other number, to fill the row, and two that are not looked at
abbrev pub call_of : ℕ → ℕ → ℕ → List ℕ → Call
call_of zero a b text = Lodge (take a text) (take b (drop a text))
call_of (suc zero) a b text = Withdraw a
call_of (suc (suc kind)) a b text = Fill

-- the bytes of the text that it takes
abbrev pub taken : ℕ → ℕ → ℕ → ℕ
taken zero a b = a + b
taken (suc kind) a b = 0

-- one or two numbers at the end are no call
unfoldable pub script : List ℕ → List ℕ → List Call
script [] text = []
script (kind ∷ []) text = []
script (kind ∷ a ∷ []) text = []
script (kind ∷ a ∷ b ∷ ns) text = call_of kind a b text ∷ script ns (drop (taken kind a b) text)

unfoldable pub needed : List ℕ → ℕ
needed [] = 0
needed (kind ∷ []) = 0
needed (kind ∷ a ∷ []) = 0
needed (kind ∷ a ∷ b ∷ ns) = taken kind a b + needed ns

-- whether a text of t bytes has all the lines, and a room of d numbers one for each answer
unfoldable pub room_for : List ℕ → ℕ → ℕ → Bool
room_for calls t d = leb (needed calls) t && leb (length calls / 3) d

-- `Done`; or `Short`, the text or the room for the answers too short, and nothing is run
unfoldable pub ran_of : Bool → Ran
ran_of true = Done
ran_of false = Short

-- document 01's number of each; nothing comes back with it
abbrev pub ran_number : Ran → ℕ
ran_number Done = 0
ran_number Short = 17

-- ── what is left in memory ──

-- the contract of `run_script`:
--   answer    whether the script was run
--   unrun     where it was not, nothing is written
--   memory    each call got the buffer and the row that the last one left
--   numbers   the number of each call's answer is at the front of its room, and what lies past them stays
--   total     from an empty roster with its row, buffer and row have the pairs last accepted and not since withdrawn, by those numbers
pub record Post (b row calls text answers : List ℕ) (r : Ran) (b' row' answers' : List ℕ) : Type 0 where
  pub answer : r ≡ ran_of (room_for calls (length text) (length answers))
  pub unrun : r ≡ Short → (b' ≡ b) × (row' ≡ row) × (answers' ≡ answers)
  pub memory : r ≡ Done → lent b' row' ≡ after_all (lent b row) (script calls text)
  pub numbers : r ≡ Done → answers' ≡ answers_to (lent b row) (script calls text) ++ drop (length (script calls text)) answers
  pub total : r ≡ Done → lent b row ≡ empty → Total (lent b' row') (accepted (script calls text) answers')
