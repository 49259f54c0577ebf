use Rattle.std.proofs.Common.{sym, ◌∙◌}
use Rattle.pass_edges.proofs.Loop.{begun, again}
use Rattle.pass_edges.proofs.Ended.{climb_early, climb_late}
use Rattle.pass_edges.proofs.climbed.Goals as goal

pub loop-init : goal.loop-init
loop-init c = begun _ _ _ _

pub returns-then-narrow : goal.returns-then-narrow
returns-then-narrow c =
    climb_early _ _ _ _ _ c.loop.invariant c.loop-test.true _ c.thirds-b.ensures (sym c.narrow.ensures ∙ c.if-narrow.true) _ c.centre.ensures

pub loop-preserved : goal.loop-preserved
loop-preserved c =
    again _ _ _ _ _ _ c.loop.invariant c.loop-test.true _ c.thirds-b.ensures (sym c.narrow.ensures ∙ c.if-narrow.false)

pub returns : goal.returns
returns c = climb_late _ _ _ _ _ c.loop.invariant c.loop-test.false _ c.centre-2.ensures
