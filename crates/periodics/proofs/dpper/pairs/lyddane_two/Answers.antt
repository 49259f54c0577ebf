use mathlib.Core.Path.{◌∙◌}
use Rattle.periodics.proofs.dpper.pairs.lyddane_two.Goals as goal

pub lyddane_at-first-requires : goal.lyddane_at-first-requires
lyddane_at-first-requires c = c.atan2-node.ensures ∙ c.lyddane_point-p.ensures

pub lyddane_at-second-requires : goal.lyddane_at-second-requires
lyddane_at-second-requires c = c.atan2-node2.ensures ∙ c.lyddane_point-p2.ensures

pub returns : goal.returns
returns c = (c.lyddane_at-first.ensures, c.lyddane_at-second.ensures)
