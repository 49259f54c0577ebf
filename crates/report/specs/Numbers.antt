-- The report of a text as 17 whole numbers, in the order in which they are printed, in memory that a caller lends. Definitions only.
--
--   0 accepted; 1-6 refused 1 to 6; 7 near; 8 deep; 9 unopened; 10-12 earliest and 13-15 latest, each the year, the day of the year and the
--   microseconds of that day; 16 span. With none accepted the last seven are 0.
use Rattle.std.specs.Prelude.{ℕ, ◌*◌, ◌/◌, ◌%◌, cond, List, [], ◌∷◌, ◌++◌, ltb, length, drop, Err, Ok, Result}
use Rattle.report.specs.declared.Tally.{Tally}
use Rattle.report.specs.declared.ReportRefusal.{ReportRefusal}
use Rattle.report.specs.declared.ReportRefusal.TheVariants as report_refusal
use Rattle.report.specs.Report.{span_of}

unfoldable pub numbers_of : Tally → List ℕ
numbers_of t =
    t.accepted
    ∷ t.refused.one ∷ t.refused.two ∷ t.refused.three ∷ t.refused.four ∷ t.refused.five ∷ t.refused.six
    ∷ t.near ∷ t.deep ∷ t.unopened
    ∷ t.earliest.year ∷ t.earliest.day / 100000000 ∷ t.earliest.day % 100000000 * 864
    ∷ t.latest.year ∷ t.latest.day / 100000000 ∷ t.latest.day % 100000000 * 864
    ∷ span_of t.earliest t.latest ∷ []

-- 23, 24, then 17, of memory with n numbers
unfoldable pub store_refusal : Result Tally ReportRefusal → ℕ → ℕ
store_refusal (Ok t) n = cond (ltb n 17) 17 0
store_refusal (Err report_refusal.TooMany) n = 23
store_refusal (Err report_refusal.Odd) n = 24

-- a refused call writes nothing, and what lies past the numbers stays
unfoldable pub stored_over : Result Tally ReportRefusal → List ℕ → List ℕ
stored_over (Ok t) ns = cond (ltb (length ns) 17) ns (numbers_of t ++ drop 17 ns)
stored_over (Err report_refusal.TooMany) ns = ns
stored_over (Err report_refusal.Odd) ns = ns
