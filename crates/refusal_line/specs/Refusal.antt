-- Document 01, "Refusal numbers": a refusal of reading as a line of text, with what comes back with it.
use Rattle.std.specs.Prelude.{ℕ, List, [], ◌∷◌, ◌++◌}
use Rattle.text.specs.Output.{bytes, decimal}
use Rattle.tle.specs.Refusals.{number_of}
use Rattle.tle.specs.declared.Line.{Line}
use Rattle.tle.specs.declared.Line.TheVariants.{One, Two}
use Rattle.tle.specs.declared.Field.{Field}
use Rattle.tle.specs.declared.Field.TheVariants.{Day, Inclination, Node, Perigee, Anomaly, Motion}
use Rattle.tle.specs.declared.Refusal.{Refusal}
use Rattle.tle.specs.declared.Refusal.TheVariants.{Length, Start, Column, Checksum, Numbers, Range, NoForm}

unfoldable pub line_text : Line → List ℕ
line_text One = bytes " 1"
line_text Two = bytes " 2"

unfoldable pub place_text : Line → ℕ → List ℕ
place_text line column = line_text line ++ ((32 ∷ []) ++ decimal column)

unfoldable pub field_text : Field → List ℕ
field_text Day = bytes " day"
field_text Inclination = bytes " inclination"
field_text Node = bytes " node"
field_text Perigee = bytes " perigee"
field_text Anomaly = bytes " anomaly"
field_text Motion = bytes " motion"

unfoldable pub values_text : Refusal → List ℕ
values_text (Length line) = line_text line
values_text (Start line) = line_text line
values_text (Column line column) = place_text line column
values_text (Checksum line) = line_text line
values_text Numbers = []
values_text (Range field) = field_text field
values_text NoForm = []

unfoldable pub refusal_text : Refusal → List ℕ
refusal_text why = bytes "refused " ++ (decimal (number_of why) ++ (values_text why ++ (10 ∷ [])))
