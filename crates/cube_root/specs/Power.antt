-- "The power 2/3 is the cube root of the square." "Powers 1.5 and 3.5: x times the root; x*x*x times the root." Definitions only.
use Rattle.std.specs.Prelude.{Float}
use Rattle.floats.specs.Notation.{◌⊗◌}
use Rattle.square_root.specs.Root.{sqrt_of}
use Rattle.cube_root.specs.Cube.{cbrt_of}

unfoldable pub pow23 : Float → Float
pow23 x = cbrt_of (x ⊗ x)

unfoldable pub pow15 : Float → Float
pow15 x = x ⊗ sqrt_of x

unfoldable pub pow35 : Float → Float
pow35 x = x ⊗ x ⊗ x ⊗ sqrt_of x
