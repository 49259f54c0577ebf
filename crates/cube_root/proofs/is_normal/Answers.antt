use mathlib.Core.Path.{refl}
use lib.Ieee.{neg, div}
use Rattle.cube_root.specs.Cube.{normal}
use Rattle.floats.proofs.Literals.{literal}
use Rattle.cube_root.proofs.is_normal.Goals as goal

pub returns : goal.returns
unfolding normal div literal neg
returns c = refl
