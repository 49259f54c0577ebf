-- Signed numbers up to the limit, as the machine computes them.
use Prim.Native.Nat.{ℕ, zero, suc, ◌≤◌}
use mathlib.Core.Path.{◌≡◌, refl, ◌∙◌}
use mathlib.Core.Bool.{Bool, true, false}
use native.Mathlib.Omega.{arith}
use lib.IntN.{pos, negsuc, ◌-ℤ◌, +ℤ_idl}
use mir.Syntax.{w64}
use mir.Val.{to_z, of_z, SFits}
use mir.Facts.{to_z_pos, to_z-of_z}
use borrow.Author.Rules.{sfits_of}
use Rattle.request_line.specs.Times.{signed, limit}

minus_is : (n : ℕ) → pos 0 -ℤ pos n ≡ signed true n
unfolding signed
minus_is zero = refl
minus_is (suc n) = +ℤ_idl (negsuc n)

fits_minus : (n : ℕ) → n ≤ limit → SFits w64 (signed true n)
unfolding signed
fits_minus zero h = sfits_of (omega arith)
fits_minus (suc n) h = sfits_of (omega arith)

pub sub_fits : (n : ℕ) → n ≤ limit → SFits w64 (pos 0 -ℤ to_z w64 n)
sub_fits n h = rw (to_z_pos w64 {n = n} (omega arith), minus_is n) (fits_minus n h)

pub minus64 : (n : ℕ) → n ≤ limit → to_z w64 (of_z w64 (pos 0 -ℤ to_z w64 n)) ≡ signed true n
minus64 n h = to_z-of_z (sub_fits n h) ∙ rw (to_z_pos w64 {n = n} (omega arith)) (minus_is n)

pub plus64 : (n : ℕ) → n ≤ limit → to_z w64 n ≡ signed false n
unfolding signed
plus64 n h = to_z_pos w64 (omega arith)

pub signed_fits : (m : Bool) (n : ℕ) → n ≤ limit → SFits w64 (signed m n)
unfolding signed
signed_fits true n h = fits_minus n h
signed_fits false n h = sfits_of (omega arith)
