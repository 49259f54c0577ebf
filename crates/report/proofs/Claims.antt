-- The claims of specs/Claims.antt about whole texts and their pieces.
use Prim.Native.Nat.{ℕ, ◌≤◌}
use mathlib.Core.Path.{◌≡◌, refl, ap, ◌∙◌, subst}
use mathlib.Core.List.{List, [], ◌∷◌}
use mathlib.Core.Bool.{Bool, true, false, cond}
use native.Mathlib.Omega.{arith}
use lib.Dec.{ltb}
use lib.ListN.{length}
use borrow.Author.Tests.{ltb-false}
use Rattle.report.specs.declared.Tally.{Tally}
use Rattle.report.specs.declared.State.{State}
use Rattle.std.specs.Prelude.{Err, Ok, Result}
use Rattle.report.specs.declared.ReportRefusal.{ReportRefusal}
use Rattle.report.specs.declared.ReportRefusal.TheVariants as report_refusal
use Rattle.report.specs.Report.{lines_of, Pair, pairs_of, is_odd, tally_of, most_pairs, report_of, number}
use Rattle.report.specs.State.{no_tally, begun, fed, finished}
use Rattle.report.specs.Claims.{joined, fed_all, CutsDoNotMatter, Told, ReportTells}
use Rattle.report.proofs.Feeding.{cuts}
use Rattle.report.proofs.Whole.{whole}
use Rattle.report.proofs.Counts.{adds_up}
use Rattle.report.proofs.Times.{bounds, one_accepted}

pieces : (ps : List (List ℕ)) (s : State) → fed_all s ps ≡ fed s (joined ps)
unfolding fed_all joined fed
pieces [] s = refl
pieces (p ∷ ps) s = pieces ps (fed s p) ∙ cuts s p (joined ps)

pub cuts_do_not_matter : CutsDoNotMatter
cuts_do_not_matter ps = ap finished (pieces ps begun) ∙ whole (joined ps)

told : (pairs : List Pair) → length pairs ≤ most_pairs → Told (tally_of pairs) pairs
unfolding tally_of
told pairs h = record { few = h; sums = adds_up pairs; bounds = bounds pairs; alone = one_accepted pairs }

tally : Result Tally ReportRefusal → Tally
tally (Ok t) = t
tally (Err report_refusal.TooMany) = no_tally
tally (Err report_refusal.Odd) = no_tally

judged : (many odd : Bool) (pairs : List Pair) (t : Tally) → ltb most_pairs (length pairs) ≡ many
    → cond many (Err report_refusal.TooMany) (cond odd (Err report_refusal.Odd) (Ok (tally_of pairs))) ≡ Ok t → Told t pairs
unfolding number tally
judged true odd pairs t e g = absurd (omega (arith, ap number g))
judged false true pairs t e g = absurd (omega (arith, ap number g))
judged false false pairs t e g = subst (λ (x : Tally). Told x pairs) (ap tally g) (told pairs (ltb-false most_pairs (length pairs) e))

pub report_tells : ReportTells
unfolding report_of
report_tells text t e =
    let pairs = pairs_of (lines_of text) in
    judged (ltb most_pairs (length pairs)) (is_odd (lines_of text)) pairs t refl e
