-- Worked examples, each by computation.
use Rattle.std.specs.Prelude.{◌≡◌, refl, [], ◌∷◌, ◌++◌, Err, Ok}
use Rattle.text.specs.Output.{bytes}
use Rattle.report.specs.declared.ReportRefusal.TheVariants as report_refusal
use Rattle.report.specs.Report.{left_over, lines_from, lines_of, pairs_of, is_odd, count, epochs_of, best_of, tally_of, report_of}
use Rattle.report.specs.State.{no_tally}

-- an empty line counts, and a last line without a newline if it has a byte
three_lines : lines_of (bytes "a" ++ (10 ∷ 10 ∷ bytes "b")) ≡ bytes "a" ∷ [] ∷ bytes "b" ∷ []
unfolding lines_from left_over
three_lines = refl

ended : lines_of (bytes "a" ++ (10 ∷ [])) ≡ bytes "a" ∷ []
unfolding lines_from left_over
ended = refl

one_line : report_of (bytes "x") ≡ Err report_refusal.Odd
unfolding report_of lines_from left_over pairs_of is_odd
one_line = refl

no_text : report_of [] ≡ Ok no_tally
unfolding report_of lines_from left_over pairs_of is_odd tally_of count epochs_of best_of
no_text = refl
