-- Document 01, "One pair, printed": its example, whole, and the cases beside it, each by computation.
use Rattle.std.specs.Prelude.{◌≡◌, refl, List, [], ◌∷◌, ◌++◌, ℕ, take, Err}
use Prim.Native.String.{String}
use Rattle.text.specs.Output.{bytes, spell, signed, glyph, places, line}
use Rattle.text.specs.Input.{line_of, rest_of}
use Rattle.instant.specs.Calendar.{days_in, last_day, day_in_range}
use Rattle.columns.specs.Layout.{agreed}
use Rattle.tle.specs.Number as tle-number
use Rattle.columns.specs.Sum.{digit_of, sum}
use Rattle.tle.specs.Number.{value_on, minus}
use Rattle.columns.specs.FirstPlace.{position, first_of}
use Rattle.tle.specs.Catalogue.{catalogue_of}
use Rattle.tle.specs.Read.{verdict_of, number_at, pair_of, class_of, letter, designator_at, year_of, ndot_at, scaled_at, day_at, motion_at, degrees_at, fields_of, form_of, ranges_of, read_of}
use Rattle.tle.specs.declared.Designator.TheVariants.{Blank, Piece}
use Rattle.tle.specs.declared.Field.TheVariants.{Day}
use Rattle.tle.specs.declared.Refusal.TheVariants.{Range}
use Rattle.listing.specs.Listing.{trimmed, designator_text, epoch_text, scaled_text, fields1, fields2, record_text, reading_text, pair_text}

-- lines of text, each ended by a newline
lines : List String → List ℕ
lines [] = []
lines (l ∷ ls) = bytes l ++ (10 ∷ lines ls)

-- from the bytes of 002's two lines to the whole output
example : pair_text (lines
    ("1 00005U 58002B   00179.78495062  .00000023  00000-0  28098-4 0  4753"
    ∷ "2 00005  34.2682 348.7242 1859667 331.7664  19.3264 10.82419157413667"
    ∷ []))
    ≡ lines
    ("number 5"
    ∷ "class U"
    ∷ "designator 58002B"
    ∷ "epoch 2000 179 67819733568"
    ∷ "ndot 23"
    ∷ "nddot 0 0"
    ∷ "bstar 28098 -4"
    ∷ "type 0"
    ∷ "set 475"
    ∷ "inclination 342682"
    ∷ "node 3487242"
    ∷ "eccentricity 1859667"
    ∷ "perigee 3317664"
    ∷ "anomaly 193264"
    ∷ "motion 1082419157"
    ∷ "revolution 41366"
    ∷ [])
unfolding pair_text lines line_of rest_of read_of form_of pair_of verdict_of agreed sum fields_of ranges_of day_in_range last_day days_in number_at catalogue_of first_of position class_of designator_at year_of day_at ndot_at scaled_at degrees_at motion_at value_on digit_of tle-number.signed minus reading_text record_text fields1 fields2 scaled_text epoch_text designator_text trimmed letter line places glyph signed spell
example = refl

-- document 02, wish 1: the number of a pair with a letter, in decimal
letters : take 14 (pair_text (lines
    ("1 Z9999U 58002B   00179.78495062  .00000023  00000-0  28098-4 0  4754"
    ∷ "2 Z9999  34.2682 348.7242 1859667 331.7664  19.3264 10.82419157413668"
    ∷ [])))
    ≡ bytes "number 339999\n"
unfolding pair_text lines line_of rest_of read_of form_of pair_of verdict_of agreed sum fields_of ranges_of day_in_range last_day days_in number_at catalogue_of first_of position class_of designator_at year_of day_at ndot_at scaled_at degrees_at motion_at value_on digit_of tle-number.signed minus reading_text record_text fields1 fields2 scaled_text epoch_text designator_text trimmed letter line places glyph signed spell
letters = refl

refused_text : reading_text (Err (Range Day)) ≡ bytes "refused 6\n"
unfolding reading_text line spell
refused_text = refl

blank_text_lem : designator_text Blank ≡ bytes "-"
unfolding designator_text
blank_text_lem = refl

-- three letters, and a launch number with leading zeros
piece_text : designator_text (Piece 67 65 66 67) ≡ bytes "00067ABC"
unfolding designator_text trimmed places glyph
piece_text = refl
