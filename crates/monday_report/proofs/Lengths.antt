-- A printed report is short enough to count.
use Prim.Native.Nat.{ℕ, ◌<◌}
use mathlib.Core.Bool.{Bool, true, false, cond}
use native.Mathlib.Omega.{arith}
use lib.Dec.{eqb}
use lib.ListN.{length}
use Rattle.text.specs.Output.{most, bytes, line}
use Rattle.text.proofs.Lengths.{Within, within, line_within}
use Rattle.listing.proofs.Lengths.{epoch_within, count_within}
use Rattle.report.specs.declared.Stamp.{Stamp}
use Rattle.report.specs.declared.Refusals.{Refusals}
use Rattle.std.specs.Prelude.{Err, Ok, Result}
use Rattle.report.specs.declared.ReportRefusal.TheVariants as report_refusal
use Rattle.report.specs.declared.Tally.{Tally}
use Rattle.report.specs.declared.ReportRefusal.{ReportRefusal}
use Rattle.report.specs.Report.{span_of}
use Rattle.monday_report.specs.Print.{refusals_text, kinds_text, span_text, dashes, times_text, tally_text, report_text}
use Rattle.monday_report.specs.Claims.{TextsFit}

refusals_within : (r : Refusals) → Within (refusals_text r) 186
unfolding refusals_text
refusals_within r =
    within (count_within (bytes "refused 1 ") r.one)
    (within (count_within (bytes "refused 2 ") r.two)
    (within (count_within (bytes "refused 3 ") r.three)
    (within (count_within (bytes "refused 4 ") r.four)
    (within (count_within (bytes "refused 5 ") r.five)
    (count_within (bytes "refused 6 ") r.six)))))

kinds_within : (near deep unopened : ℕ) → Within (kinds_text near deep unopened) 82
unfolding kinds_text
kinds_within near deep unopened =
    within (count_within (bytes "near ") near) (within (count_within (bytes "deep ") deep) (count_within (bytes "unopened ") unopened))

span_within : (a b : Stamp) → Within (span_text a b) 168
unfolding span_text
span_within a b =
    within (line_within (bytes "earliest ") (epoch_within a.year a.day))
    (within (line_within (bytes "latest ") (epoch_within b.year b.day)) (count_within (bytes "span ") (span_of a b)))

times_within : (t : Bool) (a b : Stamp) → Within (cond t dashes (span_text a b)) 168
unfolding dashes line
times_within true a b = record { at_most = omega arith }
times_within false a b = span_within a b

pub report_within : TextsFit
unfolding report_text tally_text times_text
report_within (Ok t) =
    (within (count_within (bytes "accepted ") t.accepted)
    (within (refusals_within t.refused)
    (within (kinds_within t.near t.deep t.unopened) (times_within (eqb t.accepted 0) t.earliest t.latest)))).at_most
report_within (Err report_refusal.TooMany) = omega (arith, (count_within (bytes "refused ") 23).at_most)
report_within (Err report_refusal.Odd) = omega (arith, (count_within (bytes "refused ") 24).at_most)

pub report_short : (r : Result Tally ReportRefusal) → length (report_text r) < most
report_short r = omega (arith, report_within r)
