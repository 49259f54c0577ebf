-- An i64's side, and where it is a binary64.
use Prim.Native.Nat.{◌≤◌, ◌^◌}
use native.Mathlib.Omega.{arith}
use lib.Dec.{T, le→leb, lt→ltb}
use lib.Ieee.{binary64, in_float}
use lib.IntN.{ℤ, pos, negsuc, nat_abs}
pub use Rattle.integers.proofs.Signed.{back, negative}

-- a whole number below 2 ^ 53 is a binary64
pub exact : (z : ℤ) → nat_abs z ≤ 2 ^ 53 → T (in_float binary64 z)
unfolding in_float
exact (pos n) h = le→leb n (2 ^ 53) h
exact (negsuc n) h = lt→ltb n (2 ^ 53) (omega arith)
