-- A sentence of document 01 that follows from the definitions.
use mathlib.Core.Path.{◌≡◌, refl}
use mathlib.Core.Bool.{false, true≢false}
use lib.Ieee.{Float, nan, inf, fin, neg, add, mul, div, rem, lt}
use Rattle.floats.specs.Notation.{finite}
use Rattle.trigonometry.specs.Trig.{sin_of, cos_of, turned, wrapped, folded, signed, sin_poly, cos_poly}

-- "Non-finite gives NaN."
pub sin_of_non_finite : (x : Float) → finite x ≡ false → sin_of x ≡ nan
unfolding finite sin_of turned wrapped folded sin_poly rem lt add mul div
sin_of_non_finite nan h = refl
sin_of_non_finite (inf s) h = refl
sin_of_non_finite (fin s m e) h = absurd (true≢false h)

pub cos_of_non_finite : (x : Float) → finite x ≡ false → cos_of x ≡ nan
unfolding finite cos_of turned wrapped folded signed cos_poly rem lt add mul div neg
cos_of_non_finite nan h = refl
cos_of_non_finite (inf s) h = refl
cos_of_non_finite (fin s m e) h = absurd (true≢false h)
