-- Worked examples: the definitions compute.
use Rattle.std.specs.Prelude.{◌≡◌, refl}
use Rattle.std.specs.Float.Ieee.{round, neg, add, mul, div, rem, lt}
use Rattle.floats.specs.Notation.{dec}
use Rattle.trigonometry.specs.Trig.{turned, wrapped, folded, signed, sin_poly, cos_poly, sin_of, cos_of}

sine_of_zero : sin_of (dec 0 0) ≡ dec 0 0
unfolding sin_of turned wrapped folded sin_poly round rem lt add mul div neg
sine_of_zero = refl

cosine_of_zero : cos_of (dec 0 0) ≡ dec 1 0
unfolding cos_of turned wrapped folded signed cos_poly round rem lt add mul div neg
cosine_of_zero = refl
