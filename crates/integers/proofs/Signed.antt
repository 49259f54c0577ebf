-- An i64's distance from 0, and its side, as the machine computes them.
use mathlib.Core.Path.{◌≡◌, refl, sym, ap, ◌∙◌}
use mathlib.Core.Bool.{Bool, true, false}
use Prim.Native.Nat.{ℕ, suc, ◌-◌, ◌<◌, ◌≤◌, ◌^◌}
use native.Mathlib.Omega.{arith}
use lib.Dec.{T}
use lib.IntN.{ℤ, pos, negsuc, nat_abs}
use lib.Signed.{lt_z, non_neg}
use mir.Syntax.{w64}
use mir.Val.{SFits, of_z, to_z}
use mir.ValLaws.{to_z-of_z, to_z_pos}
use borrow.Author.Tests.{le-ltb}

abbrev pub back : ℤ → Bool
back (pos n) = false
back (negsuc n) = true

-- the machine's test against 0 is the sign
pub negative : (z : ℤ) → SFits w64 z → lt_z (to_z w64 (of_z w64 z)) (pos 0) ≡ back z
negative z f = ap (λ x. lt_z x (pos 0)) (to_z-of_z w64 z f) ∙ sign z
  where
    sign : (z : ℤ) → lt_z z (pos 0) ≡ back z
    sign (pos n) = le-ltb n 0 (omega arith)
    sign (negsuc n) = refl

-- the complement of a negative number's bits, read as signed
pub flipped : (z : ℤ) → SFits w64 z → back z ≡ true → to_z w64 (18446744073709551615 - of_z w64 z) ≡ pos (nat_abs z - 1)
flipped (pos n) f h = cc
flipped (negsuc n) f h =
    let b : n < 2 ^ 63 = f.sfits in
    let e : 18446744073709551615 - (2 ^ 64 - suc n) ≡ n = omega arith in
    let g : suc n - 1 ≡ n = omega arith in
    ap (to_z w64) e ∙ to_z_pos w64 n b ∙ ap pos (sym g)

pub positive : (z : ℤ) → back z ≡ false → T (non_neg z)
positive (pos n) h = tt
positive (negsuc n) h = let x : ◌≡◌ {A = ℕ} 0 1 = cc in omega arith

pub small : (z : ℤ) → SFits w64 z → nat_abs z ≤ 2 ^ 63
small (pos n) f = omega (arith, f.sfits)
small (negsuc n) f = omega (arith, f.sfits)

pub some : (z : ℤ) → back z ≡ true → 1 ≤ nat_abs z
some (pos n) h = let x : ◌≡◌ {A = ℕ} 0 1 = cc in omega arith
some (negsuc n) h = omega arith
