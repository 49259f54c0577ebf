-- Document 01, "Refusal numbers" 1 to 6: why two lines are refused, in a sentence.
use Rattle.std.specs.Prelude.{ℕ, List, [], ◌++◌}
use Prim.Native.Char.{code}
use Rattle.text.specs.Output.{bytes}
use Rattle.columns.specs.Layout.{layout1, layout2}
use Rattle.marked_line.specs.Marked.{part, marked}
use Rattle.column_faults.specs.Faults.{length_text, column_text}
use Rattle.column_faults.specs.Sums.{checksum_text}
use Rattle.tle.specs.declared.Line.{Line}
use Rattle.tle.specs.declared.Line.TheVariants.{One, Two}
use Rattle.tle.specs.declared.Refusal.{Refusal}
use Rattle.tle.specs.declared.Refusal.TheVariants.{Length, Start, Column, Checksum, Numbers, Range, NoForm}
use Rattle.reading_faults.specs.Ranges.{range_text}

-- refusal 5
unfoldable pub numbers_text : List ℕ → List ℕ → List ℕ
numbers_text line1 line2 =
    bytes "refusal 5: columns 3 to 7 have " ++ (part 2 5 line1 ++ (bytes " in line 1 and " ++ (part 2 5 line2 ++ (bytes " in line 2.\n"
    ++ (marked 2 5 line1 ++ marked 2 5 line2)))))

-- refusals 1 to 4 of one line, by its digit and its layout; the others are not of one line
unfoldable pub line_fault : Refusal → ℕ → List ℕ → List ℕ → List ℕ
line_fault (Length l) which layout line = length_text which line
line_fault (Start l) which layout line = column_text 2 which layout line 1
line_fault (Column l column) which layout line = column_text 3 which layout line column
line_fault (Checksum l) which layout line = checksum_text which line
line_fault Numbers which layout line = []
line_fault (Range f) which layout line = []
line_fault NoForm which layout line = []

-- the line that a refusal names
unfoldable pub on_line : Line → Refusal → List ℕ → List ℕ → List ℕ
on_line One why line1 line2 = line_fault why (code "1") layout1 line1
on_line Two why line1 line2 = line_fault why (code "2") layout2 line2

-- any refusal of two lines; 16 is of fields, and no two lines have it (`NeverSixteen` of specs/Claims of crate `tle`)
unfoldable pub fault_text : Refusal → List ℕ → List ℕ → List ℕ
fault_text (Length l) line1 line2 = on_line l (Length l) line1 line2
fault_text (Start l) line1 line2 = on_line l (Start l) line1 line2
fault_text (Column l column) line1 line2 = on_line l (Column l column) line1 line2
fault_text (Checksum l) line1 line2 = on_line l (Checksum l) line1 line2
fault_text Numbers line1 line2 = numbers_text line1 line2
fault_text (Range field) line1 line2 = range_text field line1 line2
fault_text NoForm line1 line2 = bytes "refusal 16: no two lines have these fields.\n"
