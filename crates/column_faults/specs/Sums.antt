-- Document 01, "Refusal numbers" 4: the checksum that is due, and the two sums that it is made of.
use Rattle.std.specs.Prelude.{ℕ, ◌+◌, ◌%◌, List, [], ◌∷◌, ◌++◌, cond, eqb, take, get_or}
use Prim.Native.Char.{code}
use Rattle.text.specs.Output.{bytes, decimal}
use Rattle.columns.specs.Sum.{digit_of, sum}
use Rattle.marked_line.specs.Marked.{marked, named}
use Rattle.column_faults.specs.Faults.{place_text}

unfoldable pub digit_sum : List ℕ → ℕ
digit_sum [] = 0
digit_sum (b ∷ bs) = digit_of b + digit_sum bs

unfoldable pub minus : ℕ → ℕ
minus b = cond (eqb b (code "-")) 1 0

unfoldable pub minuses : List ℕ → ℕ
minuses [] = 0
minuses (b ∷ bs) = minus b + minuses bs

-- of the columns before the checksum; that the two sums are the checksum's is `SumsAdd` of specs/Claims
unfoldable pub due_text : List ℕ → List ℕ
due_text columns =
    bytes " where the checksum " ++ (decimal (sum columns % 10) ++ (bytes " is due: the digits of columns 1 to 68 add up to "
    ++ (decimal (digit_sum columns) ++ (bytes " and the minus signs to " ++ (decimal (minuses columns) ++ bytes ".\n")))))

-- refusal 4
unfoldable pub checksum_text : ℕ → List ℕ → List ℕ
checksum_text which line = place_text 4 which 69 ++ (named (get_or line 68 0) ++ (due_text (take 68 line) ++ marked 68 1 line))
