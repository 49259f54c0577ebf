-- Document 01: integer powers multiply left to right. Definitions only.
use Rattle.std.specs.Prelude.{Float}
use Rattle.elementary.specs.Notation.{◌⊗◌}

-- pow(x, 3)
unfoldable pub pow3 : Float → Float
pow3 x = x ⊗ x ⊗ x

-- pow(x, 4)
unfoldable pub pow4 : Float → Float
pow4 x = x ⊗ x ⊗ x ⊗ x
