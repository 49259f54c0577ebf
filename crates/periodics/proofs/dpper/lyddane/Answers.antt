use Rattle.periodics.proofs.dpper.lyddane.Goals as goal

pub lyddane_at-requires : goal.lyddane_at-requires
lyddane_at-requires c = c.lyddane_node-node.ensures

pub returns : goal.returns
returns c = c.lyddane_at.ensures
