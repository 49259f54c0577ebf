use mathlib.Core.Path.{refl}
use lib.Ieee.{neg}
use Rattle.decimals.specs.Fixed.{in_range, shown}
use Rattle.floats.proofs.Literals.{literal}
use Rattle.decimals.proofs.is_shown.Goals as goal

pub returns : goal.returns
unfolding shown in_range literal neg
returns c = refl
