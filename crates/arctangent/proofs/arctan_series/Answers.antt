use mathlib.Core.Path.{refl}
use lib.Ieee.{neg, sub}
use Rattle.arctangent.specs.Angle.{series}
use Rattle.floats.proofs.Literals.{literal}
use Rattle.arctangent.proofs.arctan_series.Goals as goal

pub returns : goal.returns
unfolding series sub literal neg
returns c = refl
