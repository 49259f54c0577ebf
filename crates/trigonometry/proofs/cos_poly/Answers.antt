use mathlib.Core.Path.{refl}
use lib.Ieee.{sub}
use Rattle.trigonometry.specs.Trig.{cos_poly}
use Rattle.floats.proofs.Literals.{literal}
use Rattle.trigonometry.proofs.cos_poly.Goals as goal

pub returns : goal.returns
unfolding cos_poly sub literal
returns c = refl
