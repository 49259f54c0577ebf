-- The fields put over 69 blanks are the pieces of the line side by side.
use Prim.Native.Nat.{ℕ, ◌%◌}
use mathlib.Core.Path.{◌≡◌, refl}
use mathlib.Core.List.{[], ◌∷◌, ◌++◌}
use lib.ListN.{replicate}
use Rattle.text.specs.Output.{bytes}
use Rattle.tle.specs.Read.{letter}
use Rattle.tle.specs.declared.Record.{Record}
use Rattle.tle.specs.declared.Designator.{Designator}
use Rattle.tle.specs.declared.Designator.TheVariants.{Blank, Piece}
use Rattle.tle.specs.declared.Line.TheVariants.{One, Two}
use Rattle.tle_writer.specs.Field.{place, lead, digits, number_places, right, pointed, day_places, fraction, scaled, designator}
use Rattle.tle_writer.specs.Lines.{join, body_of}
use Rattle.tle_writer.specs.Over.{over}

-- a designator as five places and three bytes, whichever it is
abbrev pub zero_of : Designator → ℕ
zero_of Blank = 32
zero_of (Piece n a b c) = 48

abbrev pub launch_of : Designator → ℕ
launch_of Blank = 0
launch_of (Piece n a b c) = n

abbrev pub first_of : Designator → ℕ
first_of Blank = 32
first_of (Piece n a b c) = a

abbrev pub second_of : Designator → ℕ
second_of Blank = 32
second_of (Piece n a b c) = b

abbrev pub third_of : Designator → ℕ
third_of Blank = 32
third_of (Piece n a b c) = c

pub places : (d : Designator) → designator d ≡ lead (zero_of d) 5 (launch_of d) ++ (first_of d ∷ []) ++ (second_of d ∷ []) ++ (third_of d ∷ [])
unfolding designator lead place
places Blank = refl
places (Piece n a b c) = refl

pub built1 : (r : Record) →
    over 64 4 (right 3 r.element) (over 62 1 (digits 1 r.ephemeris) (over 53 8 (scaled r.bstar) (over 44 8 (scaled r.nddot)
    (over 33 10 (fraction r.ndot) (over 20 12 (day_places r.day) (over 18 2 (digits 2 (r.year % 100)) (over 9 8 (designator r.designator)
    (over 7 1 (letter r.class ∷ []) (over 2 5 (number_places r.number) (over 0 1 (bytes "1") (replicate 69 32)))))))))))
    ≡ body_of One r ++ bytes " "
unfolding over lead body_of join
built1 r = rw (places r.designator)

pub built2 : (r : Record) →
    over 63 5 (right 4 r.revolution) (over 52 11 (pointed 1 8 r.motion) (over 43 8 (pointed 2 4 r.anomaly) (over 34 8 (pointed 2 4 r.perigee)
    (over 26 7 (digits 7 r.eccentricity) (over 17 8 (pointed 2 4 r.node) (over 8 8 (pointed 2 4 r.inclination)
    (over 2 5 (number_places r.number) (over 0 1 (bytes "2") (replicate 69 32)))))))))
    ≡ body_of Two r ++ bytes " "
unfolding over lead body_of join
built2 r = refl
