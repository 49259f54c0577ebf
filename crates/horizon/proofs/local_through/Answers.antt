use Rattle.horizon.specs.Horizon.{local_through}
use Rattle.horizon.proofs.local_through.Goals as goal

pub returns : goal.returns
unfolding local_through
returns c = simp (c.local.ensures, c.turned.ensures, c.rotation.ensures)
