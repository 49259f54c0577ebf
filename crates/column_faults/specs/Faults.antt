-- Document 01, "Refusal numbers" 1 to 3: what is wrong with one line of a pair, in a sentence. `which` is the digit of the line, 1 or 2.
use Rattle.std.specs.Prelude.{ℕ, ◌-◌, min, List, [], ◌∷◌, ◌++◌, cond, eqb, length, get_or}
use Prim.Native.Char.{code}
use Rattle.text.specs.Output.{bytes, decimal}
use Rattle.marked_line.specs.Marked.{marked, named}

-- of a class that admits letters, or blanks with digits or letters
unfoldable pub choice_text : ℕ → List ℕ
choice_text class =
    cond (eqb class (code "N")) (bytes "a digit, or a letter A-Z but I and O,")
    (cond (eqb class (code "R")) (bytes "a blank or a digit")
    (cond (eqb class (code "r")) (bytes "a digit, or a blank after a blank,")
    (cond (eqb class (code "f")) (bytes "a digit, or after a blank a blank,")
    (cond (eqb class (code "L")) (bytes "a letter A-Z, or after a blank a blank,")
    (cond (eqb class (code "l")) (bytes "a blank, or after another byte a letter A-Z,")
    (bytes "no byte"))))))

-- what may stand in a column of a class: specs/Layout of crate `columns` has the classes, fits says the same of bytes
unfoldable pub allowed_text : ℕ → List ℕ
allowed_text class =
    cond (eqb class (code " ")) (bytes "a blank")
    (cond (eqb class (code ".")) (bytes "a point")
    (cond (eqb class (code "1")) (bytes "a 1")
    (cond (eqb class (code "2")) (bytes "a 2")
    (cond (eqb class (code "D")) (bytes "a digit")
    (cond (eqb class (code "S")) (bytes "a blank, + or -")
    (cond (eqb class (code "E")) (bytes "+ or -")
    (cond (eqb class (code "C")) (bytes "U, C or S")
    (choice_text class))))))))

-- what is said of a line whose last byte is a carriage return
unfoldable pub end_text : ℕ → List ℕ
end_text last = cond (eqb last 13) (bytes ", the last a carriage return (its text ends lines with CR LF)") []

unfoldable pub size_text : ℕ → ℕ → List ℕ
size_text which size = bytes "refusal 1: line " ++ ((which ∷ []) ++ (bytes " has " ++ (decimal size ++ bytes " bytes where 69 are due")))

-- refusal 1; the mark stands under the first column that is missing or too many
unfoldable pub length_text : ℕ → List ℕ → List ℕ
length_text which line =
    size_text which (length line) ++ (end_text (get_or line (length line - 1) 0) ++ (bytes ".\n" ++ marked (min (length line) 69) 1 line))

unfoldable pub place_text : ℕ → ℕ → ℕ → List ℕ
place_text number which column =
    bytes "refusal " ++ (decimal number ++ (bytes ": in column " ++ (decimal column ++ (bytes " of line " ++ ((which ∷ []) ++ bytes " stands ")))))

-- refusals 2 and 3: the byte that stands in the column, and what the layout allows there
unfoldable pub column_text : ℕ → ℕ → List ℕ → List ℕ → ℕ → List ℕ
column_text number which layout line column =
    place_text number which column ++ (named (get_or line (column - 1) 0) ++ (bytes " where only " ++ (allowed_text (get_or layout (column - 1) 0)
    ++ (bytes " may stand.\n" ++ marked (column - 1) 1 line))))
