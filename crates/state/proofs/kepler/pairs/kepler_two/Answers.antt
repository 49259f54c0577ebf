use Rattle.std.proofs.Common.{sym, ◌∙◌}
use Rattle.elementary.proofs.Branch.{neither}
use Rattle.state.proofs.Rounds.{start, on, early, late}
use Rattle.state.proofs.kepler.pairs.kepler_two.Goals as goal

pub loop-n-init : goal.loop-n-init
loop-n-init c = (start c.args.q _ c.begun-a.ensures, start c.args.q2 _ c.begun-b.ensures)

pub loop-n-preserved : goal.loop-n-preserved
loop-n-preserved c =
    let left = c.loop-n.invariant in
    let few = c.loop-n-test.true in
    (on c.args.q _ _ _ left.0 few c.gone_on-a.ensures, on c.args.q2 _ _ _ left.1 few c.gone_on-b.ensures)

pub returns-then-not-unsettled : goal.returns-then-not-unsettled
returns-then-not-unsettled c =
    let left = c.loop-n.invariant in
    let done = neither c.unsettled.result c.unsettled-in-loop-n.result c.if-not-unsettled.true in
    (early c.args.q _ _ left.0 (sym c.unsettled.ensures ∙ done.0), early c.args.q2 _ _ left.1 (sym c.unsettled-in-loop-n.ensures ∙ done.1))

pub returns : goal.returns
returns c =
    let left = c.loop-n.invariant in
    (late c.args.q _ _ left.0 c.loop-n-test.false, late c.args.q2 _ _ left.1 c.loop-n-test.false)
