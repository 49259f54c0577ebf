use mathlib.Core.Path.{refl}
use lib.Ieee.{sub}
use Rattle.trigonometry.specs.Trig.{sin_poly}
use Rattle.floats.proofs.Literals.{literal}
use Rattle.trigonometry.proofs.sin_poly.Goals as goal

pub returns : goal.returns
unfolding sin_poly sub literal
returns c = refl
