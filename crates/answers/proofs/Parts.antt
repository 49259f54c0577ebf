-- An answer tells its parts.
use Prim.Native.Nat.{ℕ, ◌<◌}
use native.Mathlib.Omega.{arith}
use Rattle.answers.specs.Answer.{answer, Parts}

pub parts : (refusal detail place count : ℕ) → refusal < 256 → detail < 256 → place < 65536 → Parts refusal detail place count
unfolding answer
parts refusal detail place count a b c = record { bits_0_7 = omega arith; bits_8_15 = omega arith; bits_16_31 = omega arith; bits_32_63 = omega arith }
