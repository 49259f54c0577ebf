-- Numbers with and without a sign, as the machine holds them.
use mathlib.Core.Path.{◌≡◌, refl, ap, ◌∙◌}
use mathlib.Core.Bool.{true, false}
use Prim.Native.Nat.{ℕ, ◌<◌, ◌^◌}
use native.Mathlib.Omega.{arith}
use borrow.Author.Tests.{ltb-true}
use lib.IntN.{ℤ, pos, negsuc, nat_abs}
use lib.Dec.{T}
use lib.Signed.{lt_z, non_neg}
use mir.Syntax.{w64}
use mir.Val.{SFits, of_z, to_z}
use mir.ValLaws.{to_z-of_z}
use borrow.Author.Rules.{sfits_of}
use Rattle.record_numbers.specs.Numbers.{whole}

pub below : (z : ℤ) → lt_z z (pos 0) ≡ true → 18446744073709551615 ≡ whole z
unfolding whole
below (pos n) h = absurd (omega (arith, ltb-true n 0 h))
below (negsuc n) h = refl

pub above : (z : ℤ) → lt_z z (pos 0) ≡ false → nat_abs z ≡ whole z
unfolding whole
above (pos n) h = refl
above (negsuc n) h = let x : ◌≡◌ {A = ℕ} 0 1 = cc in absurd (omega arith)

pub nonnegative : (z : ℤ) → lt_z z (pos 0) ≡ false → T (non_neg z)
nonnegative (pos n) h = tt
nonnegative (negsuc n) h = let x : ◌≡◌ {A = ℕ} 0 1 = cc in absurd (omega arith)

fits : (z : ℤ) → nat_abs z < 2 ^ 63 → SFits w64 z
fits (pos n) h = sfits_of (omega arith)
fits (negsuc n) h = sfits_of (omega arith)

-- what the machine holds of a number is the number
pub held : (z : ℤ) → nat_abs z < 2 ^ 63 → to_z w64 (of_z w64 z) ≡ z
held z h = to_z-of_z w64 z (fits z h)

pub held_plus : (z : ℤ) (n : ℕ) → z ≡ pos n → n < 2 ^ 63 → to_z w64 (of_z w64 z) ≡ pos n
held_plus z n e h = ap (λ x. to_z w64 (of_z w64 x)) e ∙ held (pos n) h
