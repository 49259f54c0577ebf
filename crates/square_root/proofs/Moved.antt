-- One up, one down, without a branch. Assumes nothing.
use mathlib.Core.Path.{◌≡◌}
use Prim.Native.Nat.{ℕ, ◌+◌, ◌-◌, ◌≤◌}
use native.Mathlib.Omega.{arith}
use mathlib.Core.Bool.{Bool, true, false, cond}
use lib.Dec.{T}
use mir.Val.{bool_byte}

pub byte_le : (b : Bool) → bool_byte b ≤ 1
byte_le true = omega arith
byte_le false = omega arith

pub moved : (up down : Bool) (c : ℕ) → (T up → T down → ⊥) → c + bool_byte up - bool_byte down ≡ cond up (c + 1) (cond down (c - 1) c)
moved true true c n = absurd (n tt tt)
moved true false c n = omega arith
moved false true c n = omega arith
moved false false c n = omega arith
