-- Worked examples, each by computation.
use Rattle.std.specs.Prelude.{ℕ, ◌≡◌, refl, List, [], ◌∷◌, ◌++◌, Err, Ok}
use Rattle.text.specs.Output.{bytes, spell, line}
use Rattle.report.specs.declared.ReportRefusal.TheVariants as report_refusal
use Rattle.report.specs.State.{no_tally}
use Rattle.monday_report.specs.Print.{refusals_text, kinds_text, dashes, times_text, tally_text, report_text}

lines : List (List ℕ) → List ℕ
lines [] = []
lines (l ∷ ls) = l ++ (10 ∷ lines ls)

nothing_printed : report_text (Ok no_tally) ≡ lines
    (bytes "accepted 0"
    ∷ bytes "refused 1 0"
    ∷ bytes "refused 2 0"
    ∷ bytes "refused 3 0"
    ∷ bytes "refused 4 0"
    ∷ bytes "refused 5 0"
    ∷ bytes "refused 6 0"
    ∷ bytes "near 0"
    ∷ bytes "deep 0"
    ∷ bytes "unopened 0"
    ∷ bytes "earliest -"
    ∷ bytes "latest -"
    ∷ bytes "span -"
    ∷ [])
unfolding lines report_text tally_text refusals_text kinds_text times_text dashes line spell
nothing_printed = refl

too_many_printed : report_text (Err report_refusal.TooMany) ≡ lines (bytes "refused 23" ∷ [])
unfolding lines report_text line spell
too_many_printed = refl
