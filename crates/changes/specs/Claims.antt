-- What is claimed of the changes between two rosters. Proved in proofs/Merge.antt, proofs/Bounds.antt and proofs/Buffers.antt.
use Rattle.std.specs.Prelude.{ℕ, ◌^◌, ◌<◌, ◌≡◌, true, List, [], ◌∷◌, nat_abs}
use Rattle.std.proofs.Math.Option.{some}
use Rattle.tle.specs.Legal.{legal, designator_fits, scaled_fits}
use Rattle.tle.specs.declared.Record.{Record}
use Rattle.roster.specs.Records.{Rising}
use Rattle.roster.specs.Roster.{bytes_of, roster_of}
use Rattle.changes.specs.Entry.{Count, Ephemeris, Element, Inclination, Node, Eccentricity, Perigee, Anomaly, Motion, Revolution, Entry, Classes, Designators, Epochs, Ndots, Nddots, Bstars, Counts}
use Rattle.changes.specs.Changes.{Change, First, Second, Field, listed, applied}

-- "The first roster with the listed changes applied must be the second": of records, and of the buffers that hold them
abbrev pub AppliedIsSecond : Type 0
AppliedIsSecond = (xs bs : List Record) → Rising 0 xs → Rising 0 bs → applied (listed xs bs) xs ≡ bs

abbrev pub AppliedBuffer : Type 0
AppliedBuffer = (a b : List ℕ) (xs bs : List Record) → roster_of a ≡ some xs → roster_of b ≡ some bs → bytes_of (applied (listed xs bs) xs) ≡ b

-- ── how large a change can be ──

-- the decimal places of a count, and so of a difference of two
abbrev pub digits : Count → ℕ
digits Ephemeris = 1
digits Element = 4
digits Inclination = 7
digits Node = 7
digits Eccentricity = 7
digits Perigee = 7
digits Anomaly = 7
digits Motion = 10
digits Revolution = 5

-- what two legal records can differ by
abbrev pub Bounded : Entry → Type 0
Bounded (Classes x y) = Unit {0}
Bounded (Designators x y) = (designator_fits x ≡ true) × (designator_fits y ≡ true)
Bounded (Epochs d) = nat_abs d < 10 ^ 16
Bounded (Ndots d) = nat_abs d < 10 ^ 9
Bounded (Nddots x y) = (scaled_fits x ≡ true) × (scaled_fits y ≡ true)
Bounded (Bstars x y) = (scaled_fits x ≡ true) × (scaled_fits y ≡ true)
Bounded (Counts c d) = nat_abs d < 10 ^ digits c

abbrev pub BoundedChange : Change → Type 0
BoundedChange (First r) = legal r ≡ true
BoundedChange (Second r) = legal r ≡ true
BoundedChange (Field n e) = (n < 340000) × Bounded e

abbrev pub AllBounded : List Change → Type 0
AllBounded [] = Unit {0}
AllBounded (c ∷ cs) = BoundedChange c × AllBounded cs

-- every difference listed of two rosters is below 10 ^ 16, and so fits a number of 64 bits, with its sign
abbrev pub ListedAreBounded : Type 0
ListedAreBounded = (xs bs : List Record) → Rising 0 xs → Rising 0 bs → AllBounded (listed xs bs)
