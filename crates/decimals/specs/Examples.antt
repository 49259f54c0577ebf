-- Worked examples: the definitions compute.
use Rattle.std.specs.Prelude.{◌≡◌, refl, true, false, pos}
use Rattle.std.specs.Float.{nan, inf, fin, binary64}
use Rattle.std.specs.Float.Ieee.{round, neg, lt}
use Rattle.floats.specs.Notation.{dec}
use Rattle.text.specs.Output.{bytes, spell, places, glyph}
use Rattle.decimals.specs.Fixed.{units_of, in_range, shown, units_text, signed_text, fixed_text}

seven_thousand : fixed_text 6 (dec 702272103 5) ≡ bytes "7022.721030"
unfolding fixed_text shown in_range signed_text units_text units_of spell places glyph round neg lt
seven_thousand = refl

-- 0.125 and 0.375 lie halfway: to the even last place
tie_down : fixed_text 2 (dec 125 3) ≡ bytes "0.12"
unfolding fixed_text shown in_range signed_text units_text units_of spell places glyph round neg lt
tie_down = refl

tie_up : fixed_text 2 (neg (dec 375 3)) ≡ bytes "-0.38"
unfolding fixed_text shown in_range signed_text units_text units_of spell places glyph round neg lt
tie_up = refl

-- the f64 nearest to 0.005 is above it
above_a_half : fixed_text 2 (dec 5 3) ≡ bytes "0.01"
unfolding fixed_text shown in_range signed_text units_text units_of spell places glyph round neg lt
above_a_half = refl

carried_over : fixed_text 3 (dec 99996 4) ≡ bytes "10.000"
unfolding fixed_text shown in_range signed_text units_text units_of spell places glyph round neg lt
carried_over = refl

-- zero has no sign, and what rounds to zero has none
minus_zero : fixed_text 6 (fin true 0 (pos 0)) ≡ bytes "0.000000"
unfolding fixed_text shown in_range signed_text units_text units_of spell places glyph round neg lt
minus_zero = refl

rounds_to_zero : fixed_text 6 (neg (dec 4 7)) ≡ bytes "0.000000"
unfolding fixed_text shown in_range signed_text units_text units_of spell places glyph round neg lt
rounds_to_zero = refl

too_large : fixed_text 6 (neg (dec 1099511627776 0)) ≡ bytes "*"
unfolding fixed_text shown in_range round neg lt
too_large = refl

no_number : fixed_text 6 nan ≡ bytes "*"
unfolding fixed_text shown in_range round neg lt
no_number = refl

infinite : fixed_text 6 (inf true) ≡ bytes "*"
unfolding fixed_text shown in_range round neg lt
infinite = refl
