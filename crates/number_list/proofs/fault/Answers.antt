use Rattle.number_list.specs.Numbers.{faulty}
use mathlib.Core.Path.{refl}
use Rattle.number_list.proofs.fault.Goals as goal

pub returns : goal.returns
unfolding faulty
returns c = refl
