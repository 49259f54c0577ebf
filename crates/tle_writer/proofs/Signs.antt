-- The sign bytes of a signed number, by its test against 0.
use mathlib.Core.Path.{◌≡◌, refl}
use mathlib.Core.Bool.{true, false}
use Prim.Native.Nat.{ℕ, zero, suc}
use Prim.Native.Char.{code}
use native.Mathlib.Omega.{arith}
use borrow.Author.Tests.{ltb-true, lt-ltb}
use lib.IntN.{ℤ, pos, negsuc}
use lib.Signed.{lt_z}
use Rattle.tle_writer.specs.Field.{sign, exponent_sign}

pub minus_sign : (z : ℤ) → lt_z z (pos 0) ≡ true → code "-" ≡ sign z
unfolding sign
minus_sign (pos n) h = absurd (omega (arith, ltb-true n 0 h))
minus_sign (negsuc n) h = refl

pub plus_sign : (z : ℤ) → lt_z z (pos 0) ≡ false → code " " ≡ sign z
unfolding sign
plus_sign (pos n) h = refl
plus_sign (negsuc n) h = let x : ◌≡◌ {A = ℕ} 0 1 = cc in absurd (omega arith)

pub above_sign : (z : ℤ) → lt_z (pos 0) z ≡ true → code "+" ≡ exponent_sign z
unfolding exponent_sign
above_sign (pos zero) h = absurd (omega (arith, ltb-true 0 0 h))
above_sign (pos (suc n)) h = refl
above_sign (negsuc n) h = let x : ◌≡◌ {A = ℕ} 0 1 = cc in absurd (omega arith)

pub other_sign : (z : ℤ) → lt_z (pos 0) z ≡ false → code "-" ≡ exponent_sign z
unfolding exponent_sign
other_sign (pos zero) h = refl
other_sign (pos (suc n)) h = let g = lt-ltb 0 (suc n) (omega arith) in let x : ◌≡◌ {A = ℕ} 0 1 = cc in absurd (omega arith)
other_sign (negsuc n) h = refl
