-- How a line is built: a field's bytes put over those that stand there.
use Rattle.std.specs.Prelude.{ℕ, List, ◌++◌, ◌≡◌, length, take, drop}

-- xs with ys over its w elements after the first at
unfoldable pub over : ℕ → ℕ → List ℕ → List ℕ → List ℕ
over at w ys xs = take at xs ++ (ys ++ drop w (drop at xs))

-- l is line with xs, of w bytes, over those after the first at
pub record Put (at w : ℕ) (xs line l : List ℕ) : Type 0 where
  pub is : l ≡ over at w xs line
  pub wide : length xs ≡ w
