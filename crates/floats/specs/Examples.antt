-- Worked examples: the definitions compute.
use Rattle.std.specs.Prelude.{◌≡◌, refl, true, false, pos}
use Rattle.std.specs.Float.{fin}
use Rattle.std.specs.Float.Ieee.{round, sub, le}
use Rattle.floats.specs.Magnitude.{abs_of}

magnitude_of_minus_zero : abs_of (fin true 0 (pos 0)) ≡ fin false 0 (pos 0)
unfolding abs_of round le sub
magnitude_of_minus_zero = refl
