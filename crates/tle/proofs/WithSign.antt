-- A number of at most nine digits under its sign, as the machine makes it.
use Prim.Native.Nat.{ℕ, zero, suc, ◌<◌, ◌^◌}
use mathlib.Core.Path.{◌≡◌, refl, ◌∙◌}
use native.Mathlib.Omega.{arith}
use lib.IntN.{ℤ, pos, negsuc, ◌-ℤ◌, +ℤ_idl}
use mir.Syntax.{w64}
use mir.Val.{to_z, of_z, SFits}
use mir.Facts.{to_z_pos, to_z-of_z}
use borrow.Author.Rules.{sfits_of}
use mathlib.Core.Bool.{Bool, true, false}
use mathlib.Core.List.{List}
use Rattle.tle.specs.Number.{minus, signed, field}
use Rattle.tle.specs.Read.{minus_at, ndot_at}
use Rattle.tle.proofs.Steps.{field_below}

minus_is : (n : ℕ) → pos 0 -ℤ pos n ≡ minus n
unfolding minus
minus_is zero = refl
minus_is (suc n) = +ℤ_idl (negsuc n)

fits_minus : (n : ℕ) → n < 10 ^ 9 → SFits w64 (minus n)
unfolding minus
fits_minus zero h = sfits_of (omega arith)
fits_minus (suc n) h = sfits_of (omega arith)

pub sub_fits : (n : ℕ) → n < 10 ^ 9 → SFits w64 (pos 0 -ℤ to_z w64 n)
sub_fits n h = rw (to_z_pos w64 {n = n} (omega arith), minus_is n) (fits_minus n h)

pub minus64 : (n : ℕ) → n < 10 ^ 9 → to_z w64 (of_z w64 (pos 0 -ℤ to_z w64 n)) ≡ minus n
minus64 n h = to_z-of_z (sub_fits n h) ∙ rw (to_z_pos w64 {n = n} (omega arith)) (minus_is n)

pub plus64 : (n : ℕ) → n < 10 ^ 9 → to_z w64 n ≡ pos n
plus64 n h = to_z_pos w64 (omega arith)

fits : (b : Bool) (n : ℕ) → n < 10 ^ 9 → SFits w64 (signed b n)
unfolding signed
fits true n h = fits_minus n h
fits false n h = sfits_of (omega arith)

-- what the machine holds of such a number is the number
pub held : {z : ℤ} (b : Bool) (n : ℕ) → z ≡ signed b n → n < 10 ^ 9 → to_z w64 (of_z w64 z) ≡ signed b n
held b n e h = rw e (to_z-of_z {w = w64} (fits b n h))

pub ndot_held : {z : ℤ} (line : List ℕ) → z ≡ ndot_at line → to_z w64 (of_z w64 z) ≡ ndot_at line
unfolding ndot_at
ndot_held line e = held (minus_at 33 line) (field 35 8 line) e (omega (arith, field_below 35 8 line))
