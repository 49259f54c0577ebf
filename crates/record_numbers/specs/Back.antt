-- What a record's numbers and a record have of each other. Proved in proofs/Back.
use Rattle.std.specs.Prelude.{◌≡◌, true, List, ℤ, take, length, ℕ, ◌≤◌, Ok, Some}
use Rattle.tle.specs.Legal.{legal}
use Rattle.tle.specs.Read.{form_of, read_of}
use Rattle.tle.specs.declared.Record.{Record}
use Rattle.tle.specs.declared.Fields as tle-fields
use Rattle.record_numbers.specs.Numbers.{numbers_of, stored_over, given_of, fields_over, judged_of}

-- a legal record stored is given back, whatever lay in the memory before
abbrev pub StoredIsGiven : Type 0
StoredIsGiven = (r : Record) (ns : List ℤ) → legal r ≡ true → 22 ≤ length ns → given_of (stored_over r ns) ≡ Ok r

-- where numbers give a legal record, they are that record's
abbrev pub GivenIsStored : Type 0
GivenIsStored = (r : Record) (ns : List ℤ) → given_of ns ≡ Ok r → legal r ≡ true → take 22 ns ≡ numbers_of r

-- document 02, wish 9: fields that a form yields, stored and judged from their numbers, answer as reading the lines does
abbrev pub JudgedAsRead : Type 0
JudgedAsRead =
    (line1 line2 : List ℕ) (f : tle-fields.Fields) (ns : List ℤ) → form_of line1 line2 ≡ Ok f → 22 ≤ length ns
    → judged_of (fields_over f ns) ≡ Some (read_of line1 line2)
