use Prim.Native.Nat.{ℕ, zero, suc, ◌+◌, ◌-◌, ◌*◌, ◌≤◌, ◌<◌}
use native.Mathlib.Omega.{arith}
use native.Mathlib.Nat.{lt_of_le_of_lt, not-suc-le-zero, zero-lt-suc}
use mir.Facts.{Fits-below}
use Rattle.square_root.proofs.RootLaws.{sq_mono, sq_lt}
use Rattle.square_root.proofs.whole_root.Given as goal

-- The first loop leaves a root that is not too large, the second one that is not too small.
abbrev pub invariant-loop-s : goal.invariant-loop-s
invariant-loop-s l = l.s ≤ 134217728

abbrev pub decreases-loop-s : goal.decreases-loop-s
decreases-loop-s l = l.s

abbrev pub invariant-loop-s-2 : goal.invariant-loop-s-2
invariant-loop-s-2 l = (l.s * l.s ≤ l.a) × (l.s < 134217728)

abbrev pub decreases-loop-s-2 : goal.decreases-loop-s-2
decreases-loop-s-2 l = 134217728 - l.s
