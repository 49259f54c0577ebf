use mathlib.Core.Path.{◌∙◌}
use Rattle.periodics.proofs.dpper.lyddane_node.Goals as goal

pub returns : goal.returns
returns c = c.atan2.ensures ∙ c.lyddane_point-p.ensures
