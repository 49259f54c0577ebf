-- An i64's digits by its side.
use mathlib.Core.Path.{◌≡◌, refl}
use mathlib.Core.Bool.{true, false}
use mathlib.Core.List.{◌∷◌}
use lib.IntN.{ℤ, pos, negsuc, nat_abs}
use mir.Syntax.{w64}
use mir.Val.{SFits, of_z, to_z}
use mir.ValLaws.{to_z-of_z}
use Rattle.integers.proofs.Signed.{back}
use Rattle.text.specs.Output.{decimal, signed}

pub with_minus : (z : ℤ) → back z ≡ true → 45 ∷ decimal (nat_abs z) ≡ signed z
unfolding signed
with_minus (pos n) h = cc
with_minus (negsuc n) h = refl

pub without : (z : ℤ) → back z ≡ false → decimal (nat_abs z) ≡ signed z
unfolding signed
without (pos n) h = refl
without (negsuc n) h = cc

-- an i64 handed to a callee
pub steady : (z : ℤ) → SFits w64 z → to_z w64 (of_z w64 z) ≡ z
steady z f = to_z-of_z w64 z f
