-- A row as text: `row R X Y Z VX VY VZ K` and a newline. R is the refusal number, K the Kepler rounds, the others bit patterns.
use Rattle.std.specs.Prelude.{ℕ, List, [], ◌∷◌, ◌++◌, Float}
use Rattle.text.specs.Output.{bytes, decimal, pattern}

-- three numbers, a blank before each
unfoldable pub three_text : Float → Float → Float → List ℕ
three_text x y z = (32 ∷ pattern x) ++ ((32 ∷ pattern y) ++ (32 ∷ pattern z))

unfoldable pub row_text : ℕ → Float → Float → Float → Float → Float → Float → ℕ → List ℕ
row_text refusal x y z vx vy vz rounds =
    bytes "row " ++ (decimal refusal ++ (three_text x y z ++ (three_text vx vy vz ++ ((32 ∷ []) ++ (decimal rounds ++ (10 ∷ []))))))
