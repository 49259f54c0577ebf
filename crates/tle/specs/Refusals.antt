-- Document 01, "Refusal numbers": the number of each refusal of two lines and of their fields, and what comes back with it.
use Rattle.std.specs.Prelude.{ℕ}
use Rattle.tle.specs.declared.Line.{Line}
use Rattle.tle.specs.declared.Line.TheVariants.{One, Two}
use Rattle.tle.specs.declared.Field.{Field}
use Rattle.tle.specs.declared.Refusal.{Refusal}
use Rattle.tle.specs.declared.Refusal.TheVariants.{Length, Start, Column, Checksum, Numbers, Range, NoForm}

abbrev pub number_of : Refusal → ℕ
number_of (Length line) = 1
number_of (Start line) = 2
number_of (Column line column) = 3
number_of (Checksum line) = 4
number_of Numbers = 5
number_of (Range field) = 6
number_of NoForm = 16

pub data Values : Type 0 where
  nothing : Values
  line : ℕ → Values
  line_column : ℕ → ℕ → Values
  field : Field → Values

abbrev pub line_number : Line → ℕ
line_number One = 1
line_number Two = 2

unfoldable pub values_of : Refusal → Values
values_of (Length l) = line (line_number l)
values_of (Start l) = line (line_number l)
values_of (Column l c) = line_column (line_number l) c
values_of (Checksum l) = line (line_number l)
values_of Numbers = nothing
values_of (Range f) = field f
values_of NoForm = nothing
