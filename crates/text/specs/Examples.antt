-- Worked examples of the definitions, each by computation.
use Rattle.std.specs.Prelude.{◌≡◌, refl, true, negsuc}
use Rattle.std.specs.Float.{nan, inf}
use Rattle.std.specs.Float.Ieee.{to_bits}
use Rattle.text.specs.Output.{bytes, spell, decimal, signed, glyph, places, pattern}

zero_text : decimal 0 ≡ bytes "0"
unfolding spell
zero_text = refl

most_text : decimal 18446744073709551615 ≡ bytes "18446744073709551615"
unfolding spell
most_text = refl

minus_text : signed (negsuc 6) ≡ bytes "-7"
unfolding signed spell
minus_text = refl

launch_text : places 10 5 573 ≡ bytes "00573"
unfolding places glyph
launch_text = refl

nan_text : pattern nan ≡ bytes "7ff8000000000000"
unfolding pattern places glyph to_bits
nan_text = refl

infinity_text : pattern (inf true) ≡ bytes "fff0000000000000"
unfolding pattern places glyph to_bits
infinity_text = refl
