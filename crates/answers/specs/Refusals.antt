-- What a refusal of reading answers: `answer` of specs/Answer, with the refusal's number and the values that come back with it. Definitions only.
use Rattle.std.specs.Prelude.{ℕ, ◌%◌, ◌≤◌}
use Rattle.tle.specs.declared.Field.{Field}
use Rattle.tle.specs.declared.Field.TheVariants.{Day, Inclination, Node, Perigee, Anomaly, Motion}
use Rattle.tle.specs.declared.Refusal.{Refusal}
use Rattle.tle.specs.declared.Refusal.TheVariants.{Length, Start, Column, Checksum, Numbers, Range, NoForm}
use Rattle.tle.specs.Refusals.{line_number}
use Rattle.answers.specs.Answer.{answer}

-- "field, in column order"
unfoldable pub field_number : Field → ℕ
field_number Day = 1
field_number Inclination = 2
field_number Node = 3
field_number Perigee = 4
field_number Anomaly = 5
field_number Motion = 6

-- document 01's table, refusals 1 to 6; 16 is given to fields alone
unfoldable pub refusal_answer : Refusal → ℕ
refusal_answer (Length line) = answer 1 (line_number line) 0 0
refusal_answer (Start line) = answer 2 (line_number line) 0 0
refusal_answer (Column line column) = answer 3 (line_number line) column 0
refusal_answer (Checksum line) = answer 4 (line_number line) 0 0
refusal_answer Numbers = answer 5 0 0 0
refusal_answer (Range field) = answer 6 0 (field_number field) 0
refusal_answer NoForm = answer 16 0 0 0

-- a column of a line; `columns_fit` of proofs/Columns has it of every refusal that reading gives
abbrev pub ColumnFits : Refusal → Type 0
ColumnFits (Length line) = Unit {0}
ColumnFits (Start line) = Unit {0}
ColumnFits (Column line column) = column ≤ 69
ColumnFits (Checksum line) = Unit {0}
ColumnFits Numbers = Unit {0}
ColumnFits (Range field) = Unit {0}
ColumnFits NoForm = Unit {0}

-- a refusal whose column is cut to the bits that an answer has for it; of one that fits it is the refusal itself, `fits_bits` of proofs/Columns
unfoldable pub in_bits : Refusal → Refusal
in_bits (Length line) = Length line
in_bits (Start line) = Start line
in_bits (Column line column) = Column line (column % 65536)
in_bits (Checksum line) = Checksum line
in_bits Numbers = Numbers
in_bits (Range field) = Range field
in_bits NoForm = NoForm
