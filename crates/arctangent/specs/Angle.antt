-- "Two-argument arctangent: smaller over larger magnitude, twice t becomes t/(1 + root(1 + t*t)), odd series through degree 23 by Horner in the square (each
-- coefficient 1 divided by its odd number, with its sign), then times t, times 4, then pi/2 less it where y has the larger magnitude, pi less that where x < 0,
-- negated where y < 0. A negative zero counts as zero; both zero gives 0; a non-finite input gives NaN." Definitions only.
use Rattle.std.specs.Prelude.{Bool, true, false, cond, not, ◌&&◌, List, [], ◌∷◌, Float}
use Rattle.std.specs.Float.{nan}
use Rattle.std.specs.Float.Ieee.{neg, lt, eq}
use Rattle.floats.specs.Notation.{◌⊕◌, ◌⊖◌, ◌⊗◌, ◌⊘◌, dec, pi, half_pi, finite}
use Rattle.floats.specs.Horner.{inv, horner}
use Rattle.square_root.specs.Root.{sqrt_of}
use Rattle.floats.specs.Magnitude.{abs_of}

-- the tangent of half the angle whose tangent is t
unfoldable pub halved : Float → Float
halved t = t ⊘ (dec 1 0 ⊕ sqrt_of (dec 1 0 ⊕ t ⊗ t))

-- the odd series through degree 23, times 4
unfoldable pub series : Float → Float
unfolding horner
series t =
    horner (t ⊗ t)
    (neg (inv 23))
    (inv 21
    ∷ neg (inv 19)
    ∷ inv 17
    ∷ neg (inv 15)
    ∷ inv 13
    ∷ neg (inv 11)
    ∷ inv 9
    ∷ neg (inv 7)
    ∷ inv 5
    ∷ neg (inv 3)
    ∷ dec 1 0
    ∷ [])
    ⊗ t
    ⊗ dec 4 0

-- the angle of a tangent from 0 to 1
unfoldable pub arctan : Float → Float
arctan t = series (halved (halved t))

-- the angle from 0 to pi / 2, of the magnitudes of y and x
unfoldable pub quarter : Float → Float → Float
quarter ay ax = cond (lt ax ay) (half_pi ⊖ arctan (ax ⊘ ay)) (arctan (ay ⊘ ax))

-- pi less it where x < 0, negated where y < 0
unfoldable pub placed : Float → Float → Float → Float
placed y x a = let b = cond (lt x (dec 0 0)) (pi ⊖ a) a in cond (lt y (dec 0 0)) (neg b) b

unfoldable pub atan2_of : Float → Float → Float
atan2_of y x =
    cond (not (finite y && finite x)) nan
    (cond (eq y (dec 0 0) && eq x (dec 0 0)) (dec 0 0)
    (placed y x (quarter (abs_of y) (abs_of x))))
