use Prim.Native.Nat.{◌+◌, ◌-◌, ◌/◌, ◌≤◌, ◌<◌}
use native.Mathlib.Omega.{arith}
use Rattle.cube_root.proofs.CubeLaws.{Under, Over, under_of, over_of, least_under, most_over, between}
use Rattle.cube_root.proofs.near_cube.Reads as reads
use Rattle.cube_root.proofs.near_cube.Lts as lts
use Rattle.cube_root.proofs.near_cube.Given as goal

-- `low` is a number whose cube, taken 1/2 less, is below a * 2 ^ 104, and `high` is none.
abbrev pub invariant-loop-low : goal.invariant-loop-low
invariant-loop-low l = (4503599627370496 ≤ l.low) × (l.low < l.high) × (l.high ≤ 9007199254740993) × Under l.a l.low × Over l.a l.high

abbrev pub decreases-loop-low : goal.decreases-loop-low
decreases-loop-low l = l.high - l.low
