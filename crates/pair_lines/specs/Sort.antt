-- Which line of a text of pairs is which.
use Rattle.std.specs.Prelude.{ℕ, List, [], ◌∷◌, Bool, true, false, cond, ◌&&◌, ◌||◌, eqb, ltb, length, get_or}
use Prim.Native.Char.{code}
use Rattle.pair_lines.specs.declared.Sort.{Sort}
use Rattle.pair_lines.specs.declared.Sort.TheVariants.{Blank, One, Two, Whole, Other}

-- a blank, a tab or a carriage return
abbrev pub is_space : ℕ → Bool
is_space b = eqb b 32 || eqb b 9 || eqb b 13

unfoldable pub all_blank : List ℕ → Bool
all_blank [] = true
all_blank (b ∷ bs) = cond (is_space b) (all_blank bs) false

-- a digit and a blank
unfoldable pub begins : ℕ → List ℕ → Bool
begins digit line = cond (ltb (length line) 2) false (eqb (get_or line 0 0) digit && eqb (get_or line 1 0) (code " "))

-- a line 1 or a line 2 is known by its first two columns; another line of 69 bytes may be either: no name has that length
unfoldable pub sort_of : List ℕ → Sort
sort_of line =
    cond (all_blank line) Blank (cond (begins (code "1") line) One (cond (begins (code "2") line) Two (cond (eqb (length line) 69) Whole Other)))
