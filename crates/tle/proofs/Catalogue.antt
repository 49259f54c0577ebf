-- The catalogue number by its first place and its digits.
use Prim.Native.Nat.{ℕ, ◌+◌, ◌*◌, ◌<◌, ◌≤◌}
use mathlib.Core.Path.{◌≡◌, ◌∙◌}
use mathlib.Core.List.{List, [], ◌∷◌}
use native.Mathlib.Omega.{arith}
use native.Mathlib.Nat.{pow-le-pow_right}
use lib.ListN.{length, take, drop, get_or, length-take}
use lib.Seq.{drop-cons}
use Rattle.columns.specs.FirstPlace.{first_of}
use Rattle.columns.proofs.FirstPlaces.{first_below}
use Rattle.tle.specs.Number.{field}
use Rattle.tle.specs.Catalogue.{catalogue_of}
use Rattle.tle.specs.Read.{number_at}
use Rattle.tle.proofs.Steps.{part_length, value_after, value_below}

-- no five places show more than Z9999
catalogue_below : (s : List ℕ) → length s ≤ 5 → catalogue_of s < 340000
unfolding catalogue_of
catalogue_below [] h = omega arith
catalogue_below (b ∷ bs) h =
    omega (arith, value_below bs (first_of b) 34 (first_below b), pow-le-pow_right {n = 10} (omega arith) {i = length bs} {j = 4} (omega arith))

pub number_below : (line : List ℕ) → number_at line < 340000
unfolding number_at
number_below line = catalogue_below (take 5 (drop 2 line)) (simp length-take (omega arith))

-- the number by its first place and the four digits after it
pub number_parts : (line : List ℕ) → length line ≡ 69 → number_at line ≡ first_of (get_or line 2 0) * 10000 + field 3 4 line
unfolding number_at catalogue_of
number_parts line h =
    rw (drop-cons line 2 0 (omega arith)) (value_after (first_of (get_or line 2 0)) (take 4 (drop 3 line)) ∙ rw (part_length line 3 4 (omega arith)))
