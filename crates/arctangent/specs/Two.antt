-- The steps that two arctangents take side by side, which serves speed alone. proofs/Two: an ordinary point's come to its arctangent. Definitions only.
use Rattle.std.specs.Prelude.{Bool, cond, not, ◌&&◌, Float}
use Rattle.std.specs.Float.Ieee.{lt, eq}
use Rattle.floats.specs.Notation.{◌⊖◌, ◌⊘◌, dec, half_pi, finite}

-- finite, and not the origin
unfoldable pub ordinary : Float → Float → Bool
ordinary y x = finite y && finite x && not (eq y (dec 0 0) && eq x (dec 0 0))

-- the smaller magnitude over the larger
unfoldable pub tangent : Float → Float → Float
tangent ay ax = cond (lt ax ay) (ax ⊘ ay) (ay ⊘ ax)

-- pi/2 less the angle where y has the larger magnitude
unfoldable pub quarter_of : Float → Float → Float → Float
quarter_of ay ax a = cond (lt ax ay) (half_pi ⊖ a) a
