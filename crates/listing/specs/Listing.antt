-- Document 01, "One pair, printed": the sixteen lines of a record, or `refused` and the number. For any record, an illegal one too.
use Rattle.std.specs.Prelude.{ℕ, ◌*◌, ◌/◌, ◌%◌, ◌≡◌, List, [], ◌∷◌, ◌++◌, cond, eqb, leb, length, Err, None, Ok, Option, Result, Some}
use Rattle.text.specs.Output.{bytes, decimal, signed, places, line, fronted}
use Rattle.text.specs.Input.{line1, line2, held}
use Rattle.text.specs.declared.input.Lines.{Lines}
use Rattle.tle.specs.Read.{letter, read_of}
use Rattle.tle.specs.Refusals.{number_of}
use Rattle.tle.specs.declared.Designator.{Designator}
use Rattle.tle.specs.declared.Designator.TheVariants.{Blank, Piece}
use Rattle.tle.specs.declared.Scaled.{Scaled}
use Rattle.tle.specs.declared.Record as tle
use Rattle.tle.specs.declared.Record.{Record}
use Rattle.tle.specs.declared.Refusal.{Refusal}

-- a byte before a text that has lost its trailing blanks
abbrev pub before : ℕ → List ℕ → List ℕ
before b [] = cond (eqb b 32) [] (b ∷ [])
before b (c ∷ s) = b ∷ c ∷ s

-- a text without its trailing blanks
unfoldable pub trimmed : List ℕ → List ℕ
trimmed [] = []
trimmed (b ∷ s) = before b (trimmed s)

-- a blank designator prints `-`; else the launch number in five digits, and the piece
unfoldable pub designator_text : Designator → List ℕ
designator_text Blank = bytes "-"
designator_text (Piece launch a b c) = places 10 5 launch ++ trimmed (a ∷ b ∷ c ∷ [])

-- numbers with a blank between two
abbrev pub then : List ℕ → List ℕ → List ℕ
then a b = a ++ (32 ∷ b)

-- the record's own year, day of the year, and microseconds of that day, 864 for each unit of the day's last digit
unfoldable pub epoch_text : ℕ → ℕ → List ℕ
epoch_text year day = then (decimal year) (then (decimal (day / 100000000)) (decimal (day % 100000000 * 864)))

-- mantissa and exponent
unfoldable pub scaled_text : Scaled → List ℕ
scaled_text v = then (signed v.mantissa) (signed v.exponent)

-- a line with one number
abbrev pub count : List ℕ → ℕ → List ℕ
count label n = line label (decimal n)

-- the fields of line 1
unfoldable pub fields1 : tle.Record → List ℕ
fields1 r =
    count (bytes "number ") r.number
    ++ (line (bytes "class ") (letter r.class ∷ [])
    ++ (line (bytes "designator ") (designator_text r.designator)
    ++ (line (bytes "epoch ") (epoch_text r.year r.day)
    ++ (line (bytes "ndot ") (signed r.ndot)
    ++ (line (bytes "nddot ") (scaled_text r.nddot)
    ++ (line (bytes "bstar ") (scaled_text r.bstar)
    ++ (count (bytes "type ") r.ephemeris
    ++ count (bytes "set ") r.element)))))))

-- the fields of line 2
unfoldable pub fields2 : tle.Record → List ℕ
fields2 r =
    count (bytes "inclination ") r.inclination
    ++ (count (bytes "node ") r.node
    ++ (count (bytes "eccentricity ") r.eccentricity
    ++ (count (bytes "perigee ") r.perigee
    ++ (count (bytes "anomaly ") r.anomaly
    ++ (count (bytes "motion ") r.motion
    ++ count (bytes "revolution ") r.revolution)))))

unfoldable pub record_text : tle.Record → List ℕ
record_text r = fields1 r ++ fields2 r

-- a refusal prints `refused` and its number only
unfoldable pub reading_text : Result Record Refusal → List ℕ
reading_text (Ok r) = record_text r
reading_text (Err why) = count (bytes "refused ") (number_of why)

-- what is printed of the two lines that have been fed
unfoldable pub lines_text : Lines → List ℕ
lines_text s = reading_text (read_of (held s.first) (held s.second))

-- what is printed of an input: its two lines are read
unfoldable pub pair_text : List ℕ → List ℕ
pair_text input = reading_text (read_of (line1 input) (line2 input))

-- how many bytes a text is, where the lent room holds them all; else refusal 17
unfoldable pub answer : List ℕ → ℕ → Option ℕ
answer text room = cond (leb (length text) room) (Some (length text)) None

-- document 01's number of an answer
abbrev pub refusal_number : Option ℕ → ℕ
refusal_number (Some n) = 0
refusal_number None = 17

-- What printing a text into a buffer gives and leaves there: the text at the front and the rest as it was, or all as it was.
pub record Prints (text out after : List ℕ) (a : Option ℕ) : Type 0 where
  pub answered : a ≡ answer text (length out)
  pub stored : after ≡ fronted text out
