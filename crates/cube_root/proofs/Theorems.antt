-- The claims of specs/Claims.
use mathlib.Core.Path.{◌≡◌, sym}
use mathlib.Core.Bool.{false}
use lib.Ieee.{Float, nan}
use Rattle.floats.proofs.Branch.{no}
use Rattle.cube_root.specs.Cube.{normal, cbrt_normal, cbrt_of}
use Rattle.cube_root.specs.Claims.{IsNearest, NoneAsNear, OneNearest, NoTie, CubesExact, OthersNan}
use Rattle.cube_root.proofs.CubeLaws.{no_tie}
use Rattle.cube_root.proofs.CubePatterns.{nearest_cube_root}
use Rattle.cube_root.proofs.CubeNearest.{none_as_near, one_nearest, cubes_exact}

-- "For positive normal input, the nearest f64, shown by comparing cubes of whole numbers".
pub cbrt_nearest : IsNearest
cbrt_nearest = nearest_cube_root

-- No other positive f64 is as near to the exact root.
pub cbrt_none_as_near : NoneAsNear
cbrt_none_as_near = none_as_near

-- Of all positive f64 one is the nearest.
pub cbrt_unique : OneNearest
cbrt_unique = one_nearest

-- "A tie cannot occur": 8 times a whole number is even, and the cube of 2 * q + 1 is odd.
pub cbrt_no_tie : NoTie
cbrt_no_tie = no_tie

-- A perfect cube's root is exact.
pub cbrt_of_cube : CubesExact
cbrt_of_cube = cubes_exact

-- "Other inputs still give NaN."
pub cbrt_others : OthersNan
unfolding cbrt_of
cbrt_others x h = sym (no (normal x) (cbrt_normal x) nan h)
