-- Two rosters gone through together, a line or the fields of one pair at a turn. Cited by the contracts inside the crate only.
use Rattle.std.specs.Prelude.{ℕ, ◌*◌, ◌<◌, ◌≡◌, true, cond, List, [], ◌∷◌, eqb, ltb, length, take, drop, None, Option as Optional, Some}
use Rattle.std.proofs.Math.Option.{Option, none, some}
use Rattle.text.specs.Output.{Put}
use Rattle.tle.specs.Legal.{legal}
use Rattle.tle.specs.declared.Record.{Record}
use Rattle.roster.specs.Roster.{pair_bytes, roster_of}
use Rattle.changes.specs.Entry.{differences}
use Rattle.changes.specs.Changes.{First, Second, fields}
use Rattle.changes_text.specs.Text.{spelled}
use Rattle.compare.specs.declared.Turn.{Turn}

abbrev pub records_of : Option (List Record) → List Record
records_of none = []
records_of (some rs) = rs

unfoldable pub records_in : List ℕ → List Record
records_in b = records_of (roster_of b)

-- a buffer that is a roster
pub record Holding (b : List ℕ) : Type 0 where
  pub records : roster_of b ≡ some (records_in b)
  pub long : length b ≡ 8832

abbrev pub front : List Record → Optional Record
front [] = None
front (r ∷ rs) = Some r

-- place i of a buffer has this pair
pub record Stands (b : List ℕ) (i : ℕ) (r : Record) : Type 0 where
  pub good : legal r ≡ true
  pub inside : i < 64
  pub long : length b ≡ 8832
  pub bytes : take 138 (drop (i * 138) b) ≡ pair_bytes r

abbrev pub StandsAt : List ℕ → ℕ → Optional Record → Type 0
StandsAt b i (Some r) = Stands b i r
StandsAt b i None = Unit {0}

-- what a turn writes of the two pairs that come next, and how many of each roster it passes
unfoldable pub pairs_text : Record → Record → List ℕ
pairs_text a b =
    cond (ltb b.number a.number) (spelled (Second b ∷ []))
    (cond (eqb b.number a.number) (spelled (fields a.number (differences a b))) (spelled (First a ∷ [])))

unfoldable pub pairs_first : Record → Record → ℕ
pairs_first a b = cond (ltb b.number a.number) 0 1

unfoldable pub pairs_second : Record → Record → ℕ
pairs_second a b = cond (ltb b.number a.number) 1 (cond (eqb b.number a.number) 1 0)

-- the same where a roster may be at its end
unfoldable pub turn_text : Optional Record → Optional Record → List ℕ
turn_text (Some a) (Some b) = pairs_text a b
turn_text (Some a) None = spelled (First a ∷ [])
turn_text None (Some b) = spelled (Second b ∷ [])
turn_text None None = []

unfoldable pub first_passed : Optional Record → Optional Record → ℕ
first_passed (Some a) (Some b) = pairs_first a b
first_passed (Some a) None = 1
first_passed None y = 0

unfoldable pub second_passed : Optional Record → Optional Record → ℕ
second_passed (Some a) (Some b) = pairs_second a b
second_passed (Some a) None = 0
second_passed None (Some b) = 1
second_passed None None = 0

pub record Turned (out : List ℕ) (at : ℕ) (text : List ℕ) (i j : ℕ) (after : List ℕ) (t : Turn) : Type 0 where
  pub put : Put out at text after t.next
  pub first : t.first ≡ i
  pub second : t.second ≡ j
