use Rattle.storage.specs.Storage.{integrator_at}
use Rattle.storage.proofs.integrator_at.Goals as goal

pub returns : goal.returns
unfolding integrator_at
returns c = simp c.resonance_at-resonance.ensures
