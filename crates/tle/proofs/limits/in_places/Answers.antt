use mathlib.Core.Path.{refl}
use Rattle.tle.specs.Legal.{in_places}
use Rattle.tle.proofs.limits.in_places.Goals as goal

pub returns : goal.returns
unfolding in_places
returns c = refl
