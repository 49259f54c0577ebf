use Rattle.std.proofs.Common.{sym, ◌∙◌}
use Rattle.pass_edges.proofs.Loop.{begun, again}
use Rattle.pass_edges.proofs.Ended.{edge_early, edge_late}
use Rattle.pass_edges.proofs.edge.Goals as goal

pub loop-init : goal.loop-init
loop-init c = begun _ _ _ _

pub returns-then-neighbours : goal.returns-then-neighbours
returns-then-neighbours c =
    edge_early _ _ _ _ _ c.loop.invariant c.loop-test.true _ c.halved-e.ensures (sym c.neighbours.ensures ∙ c.if-neighbours.true)

pub loop-preserved : goal.loop-preserved
loop-preserved c =
    again _ _ _ _ _ _ c.loop.invariant c.loop-test.true _ c.halved-e.ensures (sym c.neighbours.ensures ∙ c.if-neighbours.false)

pub returns : goal.returns
returns c = edge_late _ _ _ _ _ c.loop.invariant c.loop-test.false
