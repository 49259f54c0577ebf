-- A line shown with marks under some of its columns, the bytes of some columns, and a byte named in words.
use Rattle.std.specs.Prelude.{ℕ, List, [], ◌∷◌, ◌++◌, map, cond, ltb, eqb, replicate, take, drop}
use Rattle.text.specs.Output.{bytes, decimal}

-- a printable byte itself, and a question mark for any other, so that every byte takes one place
unfoldable pub visible : ℕ → ℕ
visible b = cond (ltb b 32) 63 (cond (ltb 126 b) 63 b)

-- the bytes of n columns after the first `from`
unfoldable pub part : ℕ → ℕ → List ℕ → List ℕ
part from n line = map visible (take n (drop from line))

-- the first 80 columns of a line
unfoldable pub shown : List ℕ → List ℕ
shown line = bytes "    " ++ (map visible (take 80 line) ++ (10 ∷ []))

-- the line, and below it a mark under each of the n columns after the first `from`
unfoldable pub marked : ℕ → ℕ → List ℕ → List ℕ
marked from n line = shown line ++ (bytes "    " ++ (replicate from 32 ++ (replicate n 94 ++ (10 ∷ []))))

-- a byte by its number
unfoldable pub numbered : ℕ → List ℕ
numbered b = bytes "byte " ++ decimal b

-- a byte named: a blank, a printable byte between quotes, any other by its number
unfoldable pub named : ℕ → List ℕ
named b = cond (ltb b 32) (numbered b) (cond (ltb 126 b) (numbered b) (cond (eqb b 32) (bytes "a blank") (39 ∷ b ∷ 39 ∷ [])))
