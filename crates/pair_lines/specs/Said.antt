-- What is said of a line that is in no pair; the heading of a pair, and the last line of a listing.
use Rattle.std.specs.Prelude.{ℕ, List, [], ◌∷◌, ◌++◌}
use Rattle.text.specs.Output.{bytes, decimal}
use Rattle.marked_line.specs.Marked.{shown}
use Rattle.pair_lines.specs.declared.Remark.{Remark}
use Rattle.pair_lines.specs.declared.Remark.TheVariants.{Name, NoSecond, NoFirst, TooLong}

unfoldable pub remark_text : Remark → List ℕ
remark_text Name = bytes " is no line of a pair and is taken for a name:\n"
remark_text NoSecond = bytes " is a line 1 without a line 2 after it:\n"
remark_text NoFirst = bytes " is a line 2 without a line 1 before it:\n"
remark_text TooLong = bytes " is too long to be held; it begins:\n"

unfoldable pub said_text : ℕ → Remark → List ℕ → List ℕ
said_text number remark line = bytes "line " ++ (decimal number ++ (remark_text remark ++ shown line))

unfoldable pub blank_text : ℕ → List ℕ
blank_text number = bytes "line " ++ (decimal number ++ bytes " is blank.\n")

unfoldable pub heading_text : ℕ → ℕ → List ℕ
heading_text first second = bytes "lines " ++ (decimal first ++ (bytes " and " ++ (decimal second ++ bytes ": ")))

-- how many lines the text had, how many pairs, and how many of these are accepted and open
unfoldable pub summary_text : ℕ → ℕ → ℕ → List ℕ
summary_text lines pairs well =
    bytes "lines " ++ (decimal lines ++ (bytes ", pairs " ++ (decimal pairs ++ (bytes ", well " ++ (decimal well ++ (10 ∷ []))))))
