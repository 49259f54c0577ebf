use Rattle.pass_edges.specs.Search.{middle}
use Rattle.pass_edges.proofs.Steps.{halved_yes, halved_no}
use Rattle.pass_edges.proofs.halved.Goals as goal

pub returns-then-above : goal.returns-then-above
unfolding middle
returns-then-above c = halved_yes _ _ _ _ c.midpoint-m.ensures c.above.ensures c.if-above.true

pub returns : goal.returns
unfolding middle
returns c = halved_no _ _ _ _ c.midpoint-m.ensures c.above.ensures c.if-above.false
