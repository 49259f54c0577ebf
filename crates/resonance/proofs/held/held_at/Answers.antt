use Rattle.resonance.specs.Held.{held_at}
use Rattle.resonance.proofs.held.held_at.Goals as goal

pub returns : goal.returns
unfolding held_at
returns c = simp c.dots-dots.ensures
