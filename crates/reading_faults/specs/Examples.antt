-- Document 01's cases of its published pair with a damaged line 2, each by computation from the bytes of the lines.
use Rattle.std.specs.Prelude.{ℕ, ◌≡◌, refl, List, [], ◌∷◌, ◌++◌}
use Prim.Native.String.{String}
use Rattle.text.specs.Output.{bytes, spell}
use Rattle.columns.specs.Layout.{agreed}
use Rattle.columns.specs.Sum.{digit_of, sum}
use Rattle.tle.specs.Read.{verdict_of, pair_of, form_of, refusal_in}
use Rattle.tle.specs.declared.Field.TheVariants.{Inclination}
use Rattle.tle.specs.declared.Refusal.TheVariants.{Range}
use Rattle.marked_line.specs.Marked.{visible, part, shown, marked, named}
use Rattle.column_faults.specs.Faults.{allowed_text, place_text, column_text}
use Rattle.column_faults.specs.Sums.{digit_sum, minus, minuses, due_text, checksum_text}
use Rattle.reading_faults.specs.Ranges.{field_text, limits_text, range_in, range_text}
use Rattle.reading_faults.specs.Fault.{line_fault, on_line, fault_text}

-- what is said of two lines whose form is refused
said : String → String → List ℕ
said line1 line2 = fault_text (refusal_in (form_of (bytes line1) (bytes line2))) (bytes line1) (bytes line2)

lines : List String → List ℕ
lines [] = []
lines (l ∷ ls) = bytes l ++ (10 ∷ lines ls)

-- "a comma in line 2 column 12"
decimal_comma : said
    "1 00005U 58002B   00179.78495062  .00000023  00000-0  28098-4 0  4753"
    "2 00005  34,2682 348.7242 1859667 331.7664  19.3264 10.82419157413667"
    ≡ lines
    ("refusal 3: in column 12 of line 2 stands ',' where only a point may stand."
    ∷ "    2 00005  34,2682 348.7242 1859667 331.7664  19.3264 10.82419157413667"
    ∷ "               ^"
    ∷ [])
unfolding said lines form_of pair_of verdict_of agreed sum digit_of fault_text on_line line_fault column_text place_text allowed_text named marked shown visible spell
decimal_comma = refl

-- a checksum of 8 where 7 is due
checksum : said
    "1 00005U 58002B   00179.78495062  .00000023  00000-0  28098-4 0  4753"
    "2 00005  34.2682 348.7242 1859667 331.7664  19.3264 10.82419157413668"
    ≡ lines
    ("refusal 4: in column 69 of line 2 stands '8' where the checksum 7 is due: the digits of columns 1 to 68 add up to 217 and the minus signs to 0."
    ∷ "    2 00005  34.2682 348.7242 1859667 331.7664  19.3264 10.82419157413668"
    ∷ "                                                                        ^"
    ∷ [])
unfolding said lines form_of pair_of verdict_of agreed sum digit_of fault_text on_line line_fault checksum_text place_text due_text digit_sum minus minuses named marked shown visible spell
checksum = refl

-- an inclination of 190 degrees
inclination : fault_text (Range Inclination) []
    (bytes "2 00005 190.0000 348.7242 1859667 331.7664  19.3264 10.82419157413661")
    ≡ lines
    ("refusal 6: in columns 9 to 16 of line 2 the inclination is 190.0000; it may be 0.0000 to 180.0000 degrees."
    ∷ "    2 00005 190.0000 348.7242 1859667 331.7664  19.3264 10.82419157413661"
    ∷ "            ^^^^^^^^"
    ∷ [])
unfolding lines fault_text range_text range_in field_text limits_text part marked shown visible
inclination = refl
