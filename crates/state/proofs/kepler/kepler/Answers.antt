use Rattle.std.proofs.Common.{sym, ◌∙◌}
use Rattle.state.proofs.Rounds.{start, again, early, late}
use Rattle.state.proofs.kepler.kepler.Goals as goal

pub loop-n-init : goal.loop-n-init
loop-n-init c = start c.args.q c.begun-k.result c.begun-k.ensures

pub loop-n-preserved : goal.loop-n-preserved
loop-n-preserved c =
    again c.args.q c.loop-n.k c.corrected-k.result c.loop-n.n c.loop-n.invariant c.loop-n-test.true (sym c.unsettled.ensures ∙ c.if-not-unsettled.false) c.corrected-k.ensures

pub returns-then-not-unsettled : goal.returns-then-not-unsettled
returns-then-not-unsettled c =
    early c.args.q c.loop-n.k c.loop-n.n c.loop-n.invariant (sym c.unsettled.ensures ∙ c.if-not-unsettled.true)

pub returns : goal.returns
returns c = late c.args.q c.loop-n.k c.loop-n.n c.loop-n.invariant c.loop-n-test.false
