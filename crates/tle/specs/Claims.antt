-- What is claimed of reading, beyond its definition. Proved in proofs/Least.antt, proofs/Accepted.antt, proofs/Meaning.antt and
-- proofs/FirstPlaces.antt.
use Rattle.std.specs.Prelude.{ℕ, ◌*◌, ◌/◌, ◌%◌, ◌≤◌, ◌≡◌, ◌↔◌, true, false, List, ◌∷◌, ◌++◌, length, Err, Ok, Some}
use Rattle.instant.specs.Calendar.{unit_micros, epoch_micros, epoch_of, date_of}
use Rattle.text.specs.Output.{bytes}
use Rattle.columns.specs.Layout.{layout1, layout2, opens_number}
use Rattle.columns.specs.Claims.{FirstFault}
use Rattle.tle.specs.Legal.{in_form, legal}
use Rattle.tle.specs.Refusals.{number_of}
use Rattle.tle.specs.Read.{verdict_of, form_of, given, meaning_of, meant, read_of}
use Rattle.tle.specs.declared.Record.{Record}
use Rattle.tle.specs.declared.Line.{Line}
use Rattle.tle.specs.declared.Line.TheVariants.{One, Two}
use Rattle.tle.specs.declared.Fields.{Fields}
use Rattle.tle.specs.declared.Refusal.{Refusal}
use Rattle.tle.specs.declared.Refusal.TheVariants.{Column, NoForm}

abbrev pub layout_of : Line → List ℕ
layout_of One = layout1
layout_of Two = layout2

abbrev pub line_of : Line → List ℕ → List ℕ → List ℕ
line_of One line1 line2 = line1
line_of Two line1 line2 = line2

-- refusal 3, whichever line it is given to: its column is the first at which no lawful line agrees so far
abbrev pub FirstColumn : Type 0
FirstColumn =
    (line1 line2 : List ℕ) (which : Line) (column : ℕ) → read_of line1 line2 ≡ Err (Column which column)
    → FirstFault (layout_of which) (line_of which line1 line2) column

-- every record that reading accepts is legal
abbrev pub AcceptedAreLegal : Type 0
AcceptedAreLegal = (line1 line2 : List ℕ) (r : Record) → read_of line1 line2 ≡ Ok r → legal r ≡ true

-- document 02, wish 9: the two operations, one after the other, answer exactly as the single one did
abbrev pub FormThenMeaning : Type 0
FormThenMeaning = (line1 line2 : List ℕ) → meant (form_of line1 line2) ≡ read_of line1 line2

-- the first gives refusals 1 to 5 alone
abbrev pub FormRefusals : Type 0
FormRefusals = (line1 line2 : List ℕ) (why : Refusal) → form_of line1 line2 ≡ Err why → number_of why ≤ 5

-- the fields that it yields are in form, and the same as if anyone had given them; that it yields all such fields is `FormsExactly` of
-- specs/Claims of crate `tle_writer`
abbrev pub FormsYield : Type 0
FormsYield = (line1 line2 : List ℕ) (f : Fields) → form_of line1 line2 ≡ Ok f → (in_form f.0 ≡ true) × (f ≡ given f.0)

-- the second gives 16 exactly for fields that are not in form, whatever their ranges
abbrev pub SixteenExactly : Type 0
SixteenExactly = (r : Record) → (meaning_of (given r) ≡ Err NoForm) ↔ (in_form r ≡ false)

-- so it never gives 16 after the first
abbrev pub NeverSixteen : Type 0
NeverSixteen = (line1 line2 : List ℕ) (f : Fields) → form_of line1 line2 ≡ Ok f → meaning_of f ≡ Err NoForm → ⊥

-- and one after the other they refuse with 1 to 6 alone
abbrev pub ReadRefusals : Type 0
ReadRefusals = (line1 line2 : List ℕ) (why : Refusal) → read_of line1 line2 ≡ Err why → number_of why ≤ 6

-- the epoch of a legal record is an instant inside 1957-2056
abbrev pub EpochsInside : Type 0
EpochsInside = (r : Record) → legal r ≡ true → epoch_of r.year r.day ≡ Some (record { 0 = epoch_micros r.year r.day })

-- document 02, wish 3: that instant, taken apart, is the record's own year, day and time of the day
abbrev pub EpochsDated : Type 0
EpochsDated =
    (r : Record) → legal r ≡ true
    → date_of (epoch_micros r.year r.day) ≡ Some (record { year = r.year; day = r.day / 100000000; micros = r.day % 100000000 * unit_micros })

-- document 02, wish 1: a byte in column 3 that is neither a digit nor a letter A-Z without I and O is refusal 3 at that column
pub record OtherFirstPlaces : Type 0 where
  pub one : (b : ℕ) (rest line2 : List ℕ) → length rest ≡ 66 → opens_number b ≡ false
      → read_of (bytes "1 " ++ (b ∷ rest)) line2 ≡ Err (Column One 3)
  pub two : (line1 : List ℕ) (b : ℕ) (rest : List ℕ) → verdict_of One layout1 line1 ≡ Ok tt → length rest ≡ 66 → opens_number b ≡ false
      → read_of line1 (bytes "2 " ++ (b ∷ rest)) ≡ Err (Column Two 3)
