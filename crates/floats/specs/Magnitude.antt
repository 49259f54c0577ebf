-- 002's fabs. Definitions only.
use Rattle.std.specs.Prelude.{cond, Float}
use Rattle.std.specs.Float.Ieee.{le}
use Rattle.floats.specs.Notation.{◌⊖◌, dec}

-- the magnitude; -0 becomes +0
unfoldable pub abs_of : Float → Float
abs_of x = cond (le x (dec 0 0)) (dec 0 0 ⊖ x) x
