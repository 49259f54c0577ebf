use Rattle.opening.specs.Opening.{newly}
use Rattle.opening.proofs.opening.newly.Goals as goal

pub returns : goal.returns
unfolding newly
returns c = simp c.epoch_place_of-place.ensures
