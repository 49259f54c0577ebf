use mathlib.Core.Path.{◌≡◌, refl, ◌∙◌}
use Prim.Native.Nat.{◌*◌, ◌%◌, ◌^◌, ◌<◌}
use native.Mathlib.Omega.{arith}
use Rattle.trigonometry.proofs.Turns.{eleven, last, below_turn}
use Rattle.trigonometry.proofs.rem_digits.Given as goal

-- The invariant: what is left to do, done to r, is the whole.
abbrev pub invariant-loop-left : goal.invariant-loop-left
invariant-loop-left l = (l.r < 9007199254740992) × (l.r * 2 ^ l.left % 7074237752028440 ≡ l.m * 2 ^ l.k % 7074237752028440)

abbrev pub decreases-loop-left : goal.decreases-loop-left
decreases-loop-left l = l.left
