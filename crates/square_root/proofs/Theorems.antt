-- The claim of specs/Claims.
use lib.Dec.{T}
use lib.Ieee.{Float, binary64, fits}
use lib.Ieee.Positive.{positive}
use Rattle.square_root.specs.Root.{sqrt_of}
use Rattle.square_root.specs.Claims.{NearestRoot}
use Rattle.square_root.proofs.RootPatterns.{nearest_root}

-- "Square root: the nearest f64": of every positive finite f64, the subnormal ones too.
pub sqrt_nearest : (x : Float) → T (fits binary64 x) → T (positive x) → NearestRoot x (sqrt_of x)
sqrt_nearest = nearest_root
