use Rattle.pass_edges.proofs.Steps.{narrowed}
use Rattle.pass_edges.proofs.narrow.Goals as goal

pub returns : goal.returns
returns c = narrowed _ _ c.width.ensures
