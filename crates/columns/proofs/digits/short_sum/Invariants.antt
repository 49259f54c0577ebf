use mathlib.Core.Path.{◌≡◌}
use Prim.Native.Nat.{◌≤◌, ◌+◌, ◌*◌}
use lib.ListN.{drop}
use Rattle.columns.specs.Sum.{sum}
use Rattle.columns.proofs.digits.short_sum.Given as goal

abbrev pub invariant-loop-b : goal.invariant-loop-b
invariant-loop-b l = (l.t ≤ 9 * l.b-index) × (l.t + sum (drop l.b-index l.s) ≡ sum l.s)
