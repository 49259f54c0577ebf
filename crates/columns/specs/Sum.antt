-- Document 01, "The two lines": the digit that a byte shows, and the sum under the checksum.
use Rattle.std.specs.Prelude.{ℕ, ◌+◌, ◌-◌, List, [], ◌∷◌, cond, eqb}
use Prim.Native.Char.{code}
use Rattle.columns.specs.Layout.{is_digit}

-- the digit that a byte shows; a byte that is no digit counts 0
unfoldable pub digit_of : ℕ → ℕ
digit_of b = cond (is_digit b) (b - code "0") 0

-- what a byte adds under the checksum: a digit itself, a minus sign 1, and nothing else anything
abbrev pub weight_of : ℕ → ℕ
weight_of b = cond (eqb b (code "-")) 1 (digit_of b)

unfoldable pub sum : List ℕ → ℕ
sum [] = 0
sum (b ∷ bs) = weight_of b + sum bs
