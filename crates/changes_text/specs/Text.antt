-- Document 02, wish 7: the changes as text.
use Rattle.std.specs.Prelude.{ℕ, List, [], ◌∷◌, ◌++◌}
use Rattle.text.specs.Output.{bytes, decimal, signed}
use Rattle.tle.specs.Read.{letter}
use Rattle.listing.specs.Listing.{then, designator_text, scaled_text}
use Rattle.roster.specs.Roster.{pair_bytes}
use Rattle.changes.specs.Entry.{Count, Ephemeris, Element, Inclination, Node, Eccentricity, Perigee, Anomaly, Motion, Revolution, Entry, Classes, Designators, Epochs, Ndots, Nddots, Bstars, Counts}
use Rattle.changes.specs.Changes.{Change, First, Second, Field}

-- "the field's label there"
abbrev pub count_label : Count → List ℕ
count_label Ephemeris = bytes "type"
count_label Element = bytes "set"
count_label Inclination = bytes "inclination"
count_label Node = bytes "node"
count_label Eccentricity = bytes "eccentricity"
count_label Perigee = bytes "perigee"
count_label Anomaly = bytes "anomaly"
count_label Motion = bytes "motion"
count_label Revolution = bytes "revolution"

abbrev pub label : Entry → List ℕ
label (Classes x y) = bytes "class"
label (Designators x y) = bytes "designator"
label (Epochs d) = bytes "epoch"
label (Ndots d) = bytes "ndot"
label (Nddots x y) = bytes "nddot"
label (Bstars x y) = bytes "bstar"
label (Counts c d) = count_label c

-- "the second's value less the first's", or "the first's value, then the second's, as printed there"
abbrev pub values : Entry → List ℕ
values (Classes x y) = then (letter x ∷ []) (letter y ∷ [])
values (Designators x y) = then (designator_text x) (designator_text y)
values (Epochs d) = signed d
values (Ndots d) = signed d
values (Nddots x y) = then (scaled_text x) (scaled_text y)
values (Bstars x y) = then (scaled_text x) (scaled_text y)
values (Counts c d) = signed d

-- a line without its newline: "`first` or `second` and the whole 138 bytes", or "the number, the field's label there, and .."
abbrev pub body : Change → List ℕ
body (First r) = then (bytes "first") (pair_bytes r)
body (Second r) = then (bytes "second") (pair_bytes r)
body (Field n e) = then (decimal n) (then (label e) (values e))

-- "One blank stands between parts, a newline ends each line"
unfoldable pub spelled : List Change → List ℕ
spelled [] = []
spelled (c ∷ cs) = body c ++ (10 ∷ spelled cs)
