-- What a roster's program says of a call: document 02's answers (wish 2) in a sentence.
use Rattle.std.specs.Prelude.{ℕ, List, [], ◌∷◌, ◌++◌, Err, Ok, Result}
use Rattle.text.specs.Output.{bytes, decimal}
use Rattle.tle.specs.declared.Record.{Record}
use Rattle.tle.specs.declared.Refusal.{Refusal}
use Rattle.roster_calls.specs.declared.LodgingRefusal.{LodgingRefusal}
use Rattle.roster_calls.specs.declared.LodgingRefusal.TheVariants as lodging
use Rattle.roster_calls.specs.declared.WithdrawalRefusal.{WithdrawalRefusal}
use Rattle.roster_calls.specs.declared.WithdrawalRefusal.TheVariants as withdrawal
use Rattle.tle.specs.Read.{read_of}
use Rattle.reading_faults.specs.Fault.{fault_text}

-- the catalogue number of a pair that is read
abbrev pub number_text : Result Record Refusal → List ℕ
number_text (Ok r) = decimal r.number
number_text (Err why) = []

-- a sentence about the satellite of two lines
unfoldable pub about_text : List ℕ → List ℕ → List ℕ → List ℕ → List ℕ
about_text front line1 line2 back = front ++ (number_text (read_of line1 line2) ++ back)

unfoldable pub lodging_text : Result (Unit {0}) LodgingRefusal → List ℕ → List ℕ → List ℕ
lodging_text (Ok tt) line1 line2 = about_text (bytes "lodged satellite ") line1 line2 (bytes ".\n")
lodging_text (Err (lodging.Unread why)) line1 line2 = fault_text why line1 line2
lodging_text (Err lodging.NoRoster) line1 line2 = bytes "refusal 22: the file is no roster.\n"
lodging_text (Err lodging.Older) line1 line2 =
    about_text (bytes "refusal 20: the roster has a pair of satellite ") line1 line2 (bytes " whose epoch is later.\n")
lodging_text (Err lodging.Full) line1 line2 =
    about_text (bytes "refusal 19: all 64 places hold other satellites than ") line1 line2 (bytes ".\n")

-- a sentence about a satellite
unfoldable pub named_text : List ℕ → ℕ → List ℕ
named_text front number = front ++ (decimal number ++ bytes ".\n")

unfoldable pub withdrawal_text : Result (Unit {0}) WithdrawalRefusal → ℕ → List ℕ
withdrawal_text (Ok tt) number = named_text (bytes "withdrew satellite ") number
withdrawal_text (Err withdrawal.NoRoster) number = bytes "refusal 22: the file is no roster.\n"
withdrawal_text (Err withdrawal.Absent) number = named_text (bytes "refusal 21: the roster has no pair of satellite ") number

-- the last line of a lodging: how many lines the text had, how many pairs, and how many of these were lodged
unfoldable pub total_text : ℕ → ℕ → ℕ → List ℕ
total_text lines pairs lodged =
    bytes "lines " ++ (decimal lines ++ (bytes ", pairs " ++ (decimal pairs ++ (bytes ", lodged " ++ (decimal lodged ++ (10 ∷ []))))))
