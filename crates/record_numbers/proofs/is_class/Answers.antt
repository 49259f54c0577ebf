use mathlib.Core.Path.{refl}
use Rattle.record_numbers.specs.Numbers.{is_class}
use Rattle.record_numbers.proofs.is_class.Goals as goal

pub returns : goal.returns
unfolding is_class
returns c = refl
