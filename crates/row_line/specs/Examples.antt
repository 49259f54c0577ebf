-- A refused row, by computation.
use Rattle.std.specs.Prelude.{◌≡◌, refl, false, Float, pos}
use Rattle.std.specs.Float.{fin}
use Rattle.std.specs.Float.Ieee.{to_bits, size}
use Rattle.text.specs.Output.{bytes, spell, glyph, places, pattern}
use Rattle.row_line.specs.Row.{three_text, row_text}

abbrev zero : Float
zero = fin false 0 (pos 0)

refused_row_lem : row_text 9 zero zero zero zero zero zero 0
    ≡ bytes "row 9 0000000000000000 0000000000000000 0000000000000000 0000000000000000 0000000000000000 0000000000000000 0\n"
unfolding row_text three_text pattern places glyph spell to_bits size
refused_row_lem = refl
