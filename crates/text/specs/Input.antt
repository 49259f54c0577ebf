-- The first two lines of an input, and the state that holds them while the input comes in.
use Rattle.std.specs.Prelude.{ℕ, ◌+◌, ◌≡◌, List, [], ◌∷◌, Bool, true, false, cond, ltb, eqb, length, take, set, replicate}
use Rattle.text.specs.declared.input.Line.{Line}
use Rattle.text.specs.declared.input.Lines.{Lines}
use Rattle.text.specs.declared.input.Gathered.{Gathered}
use Rattle.text.specs.Output.{Put}

-- a line ends before a newline or with the input
unfoldable pub line_of : List ℕ → List ℕ
line_of [] = []
line_of (b ∷ bs) = cond (eqb b 10) [] (b ∷ line_of bs)

-- the input past its first newline
unfoldable pub rest_of : List ℕ → List ℕ
rest_of [] = []
rest_of (b ∷ bs) = cond (eqb b 10) bs (rest_of bs)

-- whether a newline ends the first line
unfoldable pub ended_in : List ℕ → Bool
ended_in [] = false
ended_in (b ∷ bs) = cond (eqb b 10) true (ended_in bs)

-- the two lines of an input; a missing line has no bytes, and later input is ignored
abbrev pub line1 : List ℕ → List ℕ
line1 input = line_of input

abbrev pub line2 : List ℕ → List ℕ
line2 input = line_of (rest_of input)

-- of a line its first 70 bytes are kept
abbrev pub kept : List ℕ → List ℕ
kept line = take 70 line

-- the state before any input
abbrev pub empty : Line
empty = record { bytes = replicate 70 0; size = 0 }

abbrev pub started : Lines
started = record { first = empty; second = empty; ended = 0 }

-- one byte more of a line
unfoldable pub pushed : Line → ℕ → Line
pushed l b = cond (ltb l.size 70) (record { bytes = set l.bytes l.size b; size = l.size + 1 }) l

-- one byte more of the input
unfoldable pub stepped : Lines → ℕ → Lines
stepped s b =
    cond (eqb s.ended 0)
    (cond (eqb b 10)
    (record { first = s.first; second = s.second; ended = 1 })
    (record { first = pushed s.first b; second = s.second; ended = 0 }))
    (cond (eqb s.ended 1)
    (cond (eqb b 10)
    (record { first = s.first; second = s.second; ended = 2 })
    (record { first = s.first; second = pushed s.second b; ended = 1 }))
    s)

-- one piece more of the input
unfoldable pub fed : Lines → List ℕ → Lines
fed s [] = s
fed s (b ∷ bs) = fed (stepped s b) bs

-- the bytes that a line holds
abbrev pub held : Line → List ℕ
held l = take l.size l.bytes

-- r is the state s after some more of the input: all that can be said of a function that reads it
pub record More (s r : Lines) : Type 0 where
  pub piece : List ℕ
  pub is : r ≡ fed s piece

-- What gathering does with the rest of a piece from an index on: the bytes before a newline are put behind those that the
-- line has, and the next index lies behind them and the newline.
pub record Gathering (line : List ℕ) (size : ℕ) (rest : List ℕ) (from : ℕ) (after : List ℕ) (r : Gathered) : Type 0 where
  pub put : Put line size (line_of rest) after r.size
  pub next : r.next ≡ from + length (line_of rest) + cond (ended_in rest) 1 0
  pub ended : r.ended ≡ ended_in rest
