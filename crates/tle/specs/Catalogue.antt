-- Document 02, wish 1: the catalogue number of five places (Alpha-5); Z9999 is 339999.
use Rattle.std.specs.Prelude.{ℕ, List, [], ◌∷◌}
use Rattle.columns.specs.FirstPlace.{first_of}
use Rattle.tle.specs.Number.{value_on}

-- the number that the places show: the first, and the digits after it
unfoldable pub catalogue_of : List ℕ → ℕ
catalogue_of [] = 0
catalogue_of (b ∷ bs) = value_on (first_of b) bs
