-- The example of 002, as document 01 prints it: written from its record, byte for byte; catalogue numbers with letters; a day that its
-- year has not.
use Rattle.std.specs.Prelude.{ℕ, ◌≡◌, refl, List, [], ◌∷◌, map}
use Rattle.text.specs.Output.{bytes}
use Rattle.tle.specs.Examples.{line1, line2, numbered, stamped, vanguard}
use Rattle.tle.specs.Legal.{in_ranges, designator_fits, scaled_fits, in_layout, legal}
use Rattle.instant.specs.Calendar.{days_in, last_day, day_in_range}
use Rattle.columns.specs.Sum.{sum, digit_of}
use Rattle.tle.specs.Read.{letter}
use Rattle.tle.specs.declared.Line.TheVariants.{One, Two}
use Rattle.tle_writer.specs.Field.{place, lead, number_places, sign, exponent_sign, designator}
use Rattle.tle_writer.specs.Lines.{join, body_of, closed_of, line_of}
use Rattle.tle_writer.specs.Write.{number_of, writing_of}

one : line_of One vanguard ≡ line1
unfolding line_of body_of closed_of join lead place sign exponent_sign letter designator sum digit_of
one = refl

two : line_of Two vanguard ≡ line2
unfolding line_of body_of closed_of join lead place sum digit_of
two = refl

-- document 02, wish 1: five digits below 100000, a letter from there on
pub letters : map number_places (99999 ∷ 100000 ∷ 179999 ∷ 180000 ∷ 229999 ∷ 230000 ∷ 339999 ∷ [])
    ≡ bytes "99999" ∷ bytes "A0000" ∷ bytes "H9999" ∷ bytes "J0000" ∷ bytes "N9999" ∷ bytes "P0000" ∷ bytes "Z9999" ∷ []
unfolding lead place
letters = refl

pub too_large : (out : List ℕ) → number_of (writing_of (numbered 340000) out) ≡ 16
unfolding writing_of legal in_layout
too_large out = refl

-- document 02, wish 3: day 366.5 of 2001
pub short_year : (out : List ℕ) → number_of (writing_of (stamped 2001 36650000000) out) ≡ 16
unfolding writing_of legal in_layout in_ranges designator_fits scaled_fits day_in_range last_day days_in
short_year out = refl
