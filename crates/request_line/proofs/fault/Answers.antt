use Rattle.request_line.specs.Times.{faulty}
use mathlib.Core.Path.{refl}
use Rattle.request_line.proofs.fault.Goals as goal

pub returns : goal.returns
unfolding faulty
returns c = refl
