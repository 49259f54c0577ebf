use mathlib.Core.Path.{refl}
use Rattle.passes.specs.Samples.{stopped}
use Rattle.passes.proofs.stopped.Goals as goal

pub returns : goal.returns
unfolding stopped
returns c = refl
