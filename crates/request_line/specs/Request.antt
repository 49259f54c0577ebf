-- A request line: `one` and a time, or `list` and none or more times, a blank before each.
use Rattle.std.specs.Prelude.{ℕ, List, [], ◌∷◌, Bool, true, false, cond, eqb, leb, ℤ, length, drop, None, Option, Some}
use Rattle.std.proofs.lemmas.List.Edits.{sets}
use Rattle.text.specs.Output.{bytes}
use Rattle.request_line.specs.declared.Request as rs
use Rattle.request_line.specs.declared.Request.TheVariants.{One, List as ListOf, TooMany, Malformed}
use Rattle.request_line.specs.Times.{times_of, count_of}

-- whether a text begins with a word
unfoldable pub begun : List ℕ → List ℕ → Bool
begun [] s = true
begun (a ∷ word) [] = false
begun (a ∷ word) (b ∷ s) = cond (eqb b a) (begun word s) false

-- what a number of times is for `one` and for `list`, with room for so many in the row
unfoldable pub single_of : ℕ → ℕ → rs.Request
single_of n room = cond (eqb n 1) (cond (leb n room) One TooMany) Malformed

unfoldable pub several_of : ℕ → ℕ → rs.Request
several_of n room = cond (leb n room) (ListOf n) TooMany

abbrev pub one_of : Option ℕ → ℕ → rs.Request
one_of (Some n) room = single_of n room
one_of None room = Malformed

abbrev pub list_of : Option ℕ → ℕ → rs.Request
list_of (Some n) room = several_of n room
list_of None room = Malformed

unfoldable pub request_of : List ℕ → ℕ → rs.Request
request_of s room =
    cond (begun (bytes "one ") s) (one_of (count_of (times_of (drop 4 s))) room)
    (cond (begun (bytes "list ") s) (list_of (count_of (times_of (drop 5 s))) room)
    (cond (begun (bytes "list") s) (cond (eqb (length s) 4) (ListOf 0) Malformed) Malformed))

-- the row afterwards: the times before the first fault, as far as there is room
unfoldable pub row_of : List ℕ → List ℤ → List ℤ
row_of s row =
    cond (begun (bytes "one ") s) (sets row 0 (times_of (drop 4 s)).values)
    (cond (begun (bytes "list ") s) (sets row 0 (times_of (drop 5 s)).values) row)
