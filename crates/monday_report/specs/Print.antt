-- Document 02, wish 4: the report as thirteen lines, or `refused` and the number. Definitions only.
use Rattle.std.specs.Prelude.{ℕ, List, ◌++◌, cond, eqb, Err, Ok, Result}
use Rattle.text.specs.Output.{bytes, line}
use Rattle.listing.specs.Listing.{count, epoch_text}
use Rattle.report.specs.declared.Stamp.{Stamp}
use Rattle.report.specs.declared.Refusals.{Refusals}
use Rattle.report.specs.declared.Tally.{Tally}
use Rattle.report.specs.declared.ReportRefusal.{ReportRefusal}
use Rattle.report.specs.declared.ReportRefusal.TheVariants as report_refusal
use Rattle.report.specs.Report.{span_of}

unfoldable pub refusals_text : Refusals → List ℕ
refusals_text r =
    count (bytes "refused 1 ") r.one
    ++ (count (bytes "refused 2 ") r.two
    ++ (count (bytes "refused 3 ") r.three
    ++ (count (bytes "refused 4 ") r.four
    ++ (count (bytes "refused 5 ") r.five
    ++ count (bytes "refused 6 ") r.six))))

unfoldable pub kinds_text : ℕ → ℕ → ℕ → List ℕ
kinds_text near deep unopened = count (bytes "near ") near ++ (count (bytes "deep ") deep ++ count (bytes "unopened ") unopened)

unfoldable pub span_text : Stamp → Stamp → List ℕ
span_text earliest latest =
    line (bytes "earliest ") (epoch_text earliest.year earliest.day)
    ++ (line (bytes "latest ") (epoch_text latest.year latest.day)
    ++ count (bytes "span ") (span_of earliest latest))

-- with none accepted, epochs and span print `-`
unfoldable pub dashes : List ℕ
dashes = line (bytes "earliest ") (bytes "-") ++ (line (bytes "latest ") (bytes "-") ++ line (bytes "span ") (bytes "-"))

unfoldable pub times_text : ℕ → Stamp → Stamp → List ℕ
times_text accepted earliest latest = cond (eqb accepted 0) dashes (span_text earliest latest)

unfoldable pub tally_text : Tally → List ℕ
tally_text t =
    count (bytes "accepted ") t.accepted
    ++ (refusals_text t.refused
    ++ (kinds_text t.near t.deep t.unopened
    ++ times_text t.accepted t.earliest t.latest))

-- a refusal prints `refused` and its number only
unfoldable pub report_text : Result Tally ReportRefusal → List ℕ
report_text (Ok t) = tally_text t
report_text (Err report_refusal.TooMany) = count (bytes "refused ") 23
report_text (Err report_refusal.Odd) = count (bytes "refused ") 24
