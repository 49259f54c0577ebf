-- Document 01, "The two lines": the bytes of each line, in the order of its tables.
use Rattle.std.specs.Prelude.{ℕ, ◌%◌, List, [], ◌∷◌, ◌++◌}
use Rattle.text.specs.Output.{bytes}
use Rattle.columns.specs.Sum.{sum}
use Rattle.tle.specs.Read.{letter}
use Rattle.tle.specs.declared.Record.{Record}
use Rattle.tle.specs.declared.Line.{Line}
use Rattle.tle.specs.declared.Line.TheVariants.{One, Two}
use Rattle.tle_writer.specs.Field.{digits, number_places, right, pointed, day_places, fraction, scaled, designator}

-- pieces side by side
unfoldable pub join : List (List ℕ) → List ℕ
join [] = []
join (x ∷ xs) = x ++ join xs

-- line 1, columns 1 to 68; a year by its last two digits
abbrev pub pieces1 : Record → List (List ℕ)
pieces1 r =
    bytes "1 " ∷ number_places r.number ∷ (letter r.class ∷ [])  -- 1; 3-7; 8
    ∷ bytes " " ∷ designator r.designator  -- 10-17
    ∷ bytes " " ∷ digits 2 (r.year % 100) ∷ day_places r.day  -- 19-20; 21-32
    ∷ bytes " " ∷ fraction r.ndot  -- 34-43
    ∷ bytes " " ∷ scaled r.nddot  -- 45-52
    ∷ bytes " " ∷ scaled r.bstar  -- 54-61
    ∷ bytes " " ∷ digits 1 r.ephemeris ∷ bytes " " ∷ right 3 r.element  -- 63; 65-68
    ∷ []

-- line 2, columns 1 to 68
abbrev pub pieces2 : Record → List (List ℕ)
pieces2 r =
    bytes "2 " ∷ number_places r.number  -- 1; 3-7
    ∷ bytes " " ∷ pointed 2 4 r.inclination  -- 9-16
    ∷ bytes " " ∷ pointed 2 4 r.node  -- 18-25
    ∷ bytes " " ∷ digits 7 r.eccentricity  -- 27-33
    ∷ bytes " " ∷ pointed 2 4 r.perigee  -- 35-42
    ∷ bytes " " ∷ pointed 2 4 r.anomaly  -- 44-51
    ∷ bytes " " ∷ pointed 1 8 r.motion  -- 53-63
    ∷ right 4 r.revolution  -- 64-68
    ∷ []

unfoldable pub body_of : Line → Record → List ℕ
body_of One r = join (pieces1 r)
body_of Two r = join (pieces2 r)

-- columns 1 to 68, and the checksum digit in column 69
unfoldable pub closed_of : List ℕ → List ℕ
closed_of body = body ++ digits 1 (sum body % 10)

unfoldable pub line_of : Line → Record → List ℕ
line_of which r = closed_of (body_of which r)
