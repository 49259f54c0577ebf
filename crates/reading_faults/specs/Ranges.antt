-- Document 01, refusal 6: the field that is out of its range, its value as it stands, and its range.
use Rattle.std.specs.Prelude.{ℕ, List, ◌++◌}
use Rattle.text.specs.Output.{bytes}
use Rattle.marked_line.specs.Marked.{part, marked}
use Rattle.tle.specs.declared.Field.{Field}
use Rattle.tle.specs.declared.Field.TheVariants.{Day, Inclination, Node, Perigee, Anomaly, Motion}

-- the field, with the columns that it stands in
unfoldable pub field_text : Field → List ℕ
field_text Day = bytes "in columns 21 to 32 of line 1 the day is "
field_text Inclination = bytes "in columns 9 to 16 of line 2 the inclination is "
field_text Node = bytes "in columns 18 to 25 of line 2 the node is "
field_text Perigee = bytes "in columns 35 to 42 of line 2 the perigee is "
field_text Anomaly = bytes "in columns 44 to 51 of line 2 the anomaly is "
field_text Motion = bytes "in columns 53 to 63 of line 2 the motion is "

-- its range: "Ranges" of document 01, and for the day wish 3 of document 02
unfoldable pub limits_text : Field → List ℕ
limits_text Day = bytes "; it may be 1.00000000 to 365.99999999, in a leap year to 366.99999999.\n"
limits_text Inclination = bytes "; it may be 0.0000 to 180.0000 degrees.\n"
limits_text Node = bytes "; it may be 0.0000 to 359.9999 degrees.\n"
limits_text Perigee = bytes "; it may be 0.0000 to 359.9999 degrees.\n"
limits_text Anomaly = bytes "; it may be 0.0000 to 359.9999 degrees.\n"
limits_text Motion = bytes "; it must be above 0.00000000 revolutions a day.\n"

-- how many columns lie before it, and how many it has
abbrev pub from_of : Field → ℕ
from_of Day = 20
from_of Inclination = 8
from_of Node = 17
from_of Perigee = 34
from_of Anomaly = 43
from_of Motion = 52

abbrev pub width_of : Field → ℕ
width_of Day = 12
width_of Inclination = 8
width_of Node = 8
width_of Perigee = 8
width_of Anomaly = 8
width_of Motion = 11

unfoldable pub range_in : Field → List ℕ → List ℕ
range_in field line =
    bytes "refusal 6: " ++ (field_text field ++ (part (from_of field) (width_of field) line ++ (limits_text field ++ marked (from_of field) (width_of field) line)))

-- the day stands in line 1, the others in line 2
unfoldable pub range_text : Field → List ℕ → List ℕ → List ℕ
range_text Day line1 line2 = range_in Day line1
range_text Inclination line1 line2 = range_in Inclination line2
range_text Node line1 line2 = range_in Node line2
range_text Perigee line1 line2 = range_in Perigee line2
range_text Anomaly line1 line2 = range_in Anomaly line2
range_text Motion line1 line2 = range_in Motion line2
