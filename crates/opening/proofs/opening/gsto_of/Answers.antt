use Rattle.instant.specs.Greenwich.{greenwich_at}
use Rattle.opening.proofs.opening.gsto_of.Goals as goal

pub returns : goal.returns
unfolding greenwich_at
returns c = simp (c.unwrap_or.ensures, c.greenwich.ensures, c.requires)
