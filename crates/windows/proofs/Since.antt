-- The time from an epoch to an instant, as a difference of two whole numbers.
use mathlib.Core.Path.{◌≡◌, refl, sym, ap, subst}
use mathlib.Core.Bool.{Bool, true, false, cond}
use Prim.Native.Nat.{ℕ, zero, suc, ◌-◌, ◌<◌}
use native.Mathlib.Omega.{arith}
use lib.IntN.{ℤ, pos, negsuc, sub_ℕ, ◌-ℤ◌}
use lib.Dec.{ltb}
use mir.Syntax.{w64}
use mir.Val.{SFits, to_z}
use mir.ValLaws.{to_z_pos}
use borrow.Author.Tests.{le-ltb}

fits_by : (b : Bool) (t e : ℕ) → t < 3155760000000000 → e < 4611686018427387904 → SFits w64 (cond b (negsuc (e - suc t)) (pos (t - e)))
fits_by true t e h g = record { sfits = omega arith }
fits_by false t e h g = record { sfits = omega arith }

less : (t e : ℕ) → pos t -ℤ pos e ≡ sub_ℕ t e
less t zero = rw (le-ltb t 0 (omega arith)) (ap pos (omega arith))
less t (suc e) = refl

known : (t e : ℕ) → t < 3155760000000000 → e < 4611686018427387904 → to_z w64 t -ℤ to_z w64 e ≡ sub_ℕ t e
known t e h g = rw (to_z_pos w64 t (omega arith), to_z_pos w64 e (omega arith)) (less t e)

pub since_is : (t e : ℕ) → t < 3155760000000000 → e < 4611686018427387904 → to_z w64 t -ℤ to_z w64 e ≡ sub_ℕ t e
since_is t e h g = known t e h g

pub since_fits : (t e : ℕ) → t < 3155760000000000 → e < 4611686018427387904 → SFits w64 (to_z w64 t -ℤ to_z w64 e)
since_fits t e h g = subst (λ (z : ℤ). SFits w64 z) (sym (known t e h g)) (fits_by (ltb t e) t e h g)

pub difference_fits : (t e : ℕ) → t < 3155760000000000 → e < 4611686018427387904 → SFits w64 (sub_ℕ t e)
difference_fits t e h g = fits_by (ltb t e) t e h g
