-- "Sine, cosine: remainder by two pi; above pi less two pi, below -pi plus two pi; a magnitude above pi/2 reflected at pi of its own sign, the cosine then
-- negated; the Taylor polynomial of degree 21 (sine) or 22 (cosine) by Horner in the square (sine's then multiplied by the argument), each coefficient 1 divided
-- by a factorial with its sign. Non-finite gives NaN." Definitions only. The last sentence is `sin_of_non_finite` and its companions of proofs/Theorems.
use Rattle.std.specs.Prelude.{ℕ, zero, suc, ◌*◌, Bool, true, false, cond, List, [], ◌∷◌, Float}
use Rattle.std.specs.Float.{binary64}
use Rattle.std.specs.Float.Ieee.{rem, neg, lt}
use Rattle.floats.specs.Notation.{◌⊕◌, ◌⊖◌, ◌⊗◌, dec, pi, two_pi, half_pi}
use Rattle.floats.specs.Horner.{inv, horner}
use Rattle.trigonometry.specs.declared.SinCos.{SinCos}

-- the remainder by two pi: C's fmod, exact, with the sign of x
unfoldable pub turned : Float → Float
turned x = rem binary64 x two_pi

-- above pi less two pi, below -pi plus two pi
unfoldable pub wrapped : Float → Float
wrapped r = cond (lt pi r) (r ⊖ two_pi) (cond (lt r (neg pi)) (r ⊕ two_pi) r)

-- a magnitude above pi / 2, reflected at pi of its own sign
unfoldable pub folded : Float → Float
folded r = cond (lt half_pi r) (pi ⊖ r) (cond (lt r (neg half_pi)) (neg pi ⊖ r) r)

-- where it is reflected, the cosine is negated
unfoldable pub signed : Float → Float → Float
signed r c = cond (lt half_pi r) (neg c) (cond (lt r (neg half_pi)) (neg c) c)

unfoldable pub factorial : ℕ → ℕ
factorial zero = 1
factorial (suc n) = suc n * factorial n

-- plus and minus 1 / n!
unfoldable pub plus : ℕ → Float
unfolding factorial
plus n = inv (factorial n)

unfoldable pub minus : ℕ → Float
unfolding factorial
minus n = neg (inv (factorial n))

unfoldable pub sin_poly : Float → Float
unfolding horner plus minus
sin_poly x =
    horner (x ⊗ x)
    (plus 21)
    (minus 19
    ∷ plus 17
    ∷ minus 15
    ∷ plus 13
    ∷ minus 11
    ∷ plus 9
    ∷ minus 7
    ∷ plus 5
    ∷ minus 3
    ∷ dec 1 0
    ∷ [])
    ⊗ x

unfoldable pub cos_poly : Float → Float
unfolding horner plus minus
cos_poly x =
    horner (x ⊗ x)
    (minus 22)
    (plus 20
    ∷ minus 18
    ∷ plus 16
    ∷ minus 14
    ∷ plus 12
    ∷ minus 10
    ∷ plus 8
    ∷ minus 6
    ∷ plus 4
    ∷ minus 2
    ∷ dec 1 0
    ∷ [])

unfoldable pub sin_of : Float → Float
sin_of x = sin_poly (folded (wrapped (turned x)))

unfoldable pub cos_of : Float → Float
cos_of x = let r = wrapped (turned x) in signed r (cos_poly (folded r))

unfoldable pub sin_cos : Float → SinCos
sin_cos x = record { sin = sin_of x; cos = cos_of x }
