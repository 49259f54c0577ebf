-- How a number of the code meets a decimal of the papers: the code's literal 1.5 is `of_bits` of its pattern, and the papers' 1.5 is `dec 15 1`, a fraction that `round`
-- rounds. Where both are open the two compute to the same value. A proof opens them by `unfolding literal`. Rounded operations stay shut, so that they compare by their operands.
use mathlib.Core.Path.{◌≡◌, refl}
use lib.Ieee.{binary64, of_bits, round}
use Rattle.floats.specs.Notation.{dec}

unfoldable pub literal : Type 0
unfolding of_bits round
literal = Unit

-- for example
one_and_a_half : of_bits binary64 0x3ff8_0000_0000_0000 ≡ dec 15 1
unfolding literal
one_and_a_half = refl
