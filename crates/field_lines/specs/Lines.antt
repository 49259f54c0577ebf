-- Document 02, wish 7, "for pairs in both, each field that differs": the lines of two records, and their parts as the code puts them.
use Rattle.std.specs.Prelude.{ℕ, Bool, cond, ◌&&◌, List, [], ◌∷◌, ◌++◌, eqb, ◌-ℤ◌}
use Rattle.std.proofs.Math.IntN.{sub_ℕ}
use Rattle.text.specs.Output.{bytes, decimal, signed}
use Rattle.tle.specs.declared.Record.{Record}
use Rattle.tle.specs.Read.{letter}
use Rattle.listing.specs.Listing.{then, designator_text, scaled_text}
use Rattle.roster.specs.Records.{instant_of}
use Rattle.tle.specs.Legal.{legal}
use Rattle.changes.specs.Changes.{fields}
use Rattle.changes_text.specs.Text.{spelled}
use Rattle.changes.specs.Entry.{differences, sameℤ, same_class, same_designator, same_scaled}

-- the number and the label, each with a blank behind it
unfoldable pub named : ℕ → List ℕ → List ℕ
named n label = decimal n ++ (32 ∷ (label ++ (32 ∷ [])))

unfoldable pub line_of : ℕ → List ℕ → List ℕ → List ℕ
line_of n label value = then (decimal n) (then label value) ++ (10 ∷ [])

-- a line where two values are not the same
abbrev pub unless_line : Bool → ℕ → List ℕ → List ℕ → List ℕ
unless_line same n label value = cond same [] (line_of n label value)

abbrev pub count_text : ℕ → List ℕ → ℕ → ℕ → List ℕ
count_text n label first second = unless_line (eqb first second) n label (signed (sub_ℕ second first))

unfoldable pub counts_text : ℕ → Record → Record → List ℕ
counts_text n a b =
    count_text n (bytes "type") a.ephemeris b.ephemeris
    ++ (count_text n (bytes "set") a.element b.element
    ++ (count_text n (bytes "inclination") a.inclination b.inclination
    ++ (count_text n (bytes "node") a.node b.node
    ++ (count_text n (bytes "eccentricity") a.eccentricity b.eccentricity
    ++ (count_text n (bytes "perigee") a.perigee b.perigee
    ++ (count_text n (bytes "anomaly") a.anomaly b.anomaly
    ++ (count_text n (bytes "motion") a.motion b.motion
    ++ count_text n (bytes "revolution") a.revolution b.revolution)))))))

unfoldable pub shape_text : ℕ → Record → Record → List ℕ
shape_text n a b =
    unless_line (same_class a.class b.class) n (bytes "class") (then (letter a.class ∷ []) (letter b.class ∷ []))
    ++ (unless_line (same_designator a.designator b.designator) n (bytes "designator") (then (designator_text a.designator) (designator_text b.designator))
    ++ (count_text n (bytes "epoch") (instant_of a) (instant_of b)
    ++ (unless_line (sameℤ a.ndot b.ndot) n (bytes "ndot") (signed (b.ndot -ℤ a.ndot))
    ++ (unless_line (same_scaled a.nddot b.nddot) n (bytes "nddot") (then (scaled_text a.nddot) (scaled_text b.nddot))
    ++ unless_line (same_scaled a.bstar b.bstar) n (bytes "bstar") (then (scaled_text a.bstar) (scaled_text b.bstar))))))

-- the lines of two records that are legal
abbrev pub fields_text : Record → Record → List ℕ
fields_text a b = cond (legal a && legal b) (spelled (fields a.number (differences a b))) []
