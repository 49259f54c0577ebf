use Rattle.pass_edges.proofs.Steps.{near}
use Rattle.pass_edges.proofs.neighbours.Goals as goal

pub returns : goal.returns
returns c = near _ _ c.abs_diff.ensures
