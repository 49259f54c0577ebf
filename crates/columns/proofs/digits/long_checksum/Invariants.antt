use mathlib.Core.Path.{◌≡◌}
use Prim.Native.Nat.{◌<◌, ◌+◌, ◌%◌}
use lib.ListN.{drop}
use Rattle.columns.specs.Sum.{sum}
use Rattle.columns.proofs.digits.long_checksum.Given as goal

abbrev pub invariant-loop-b : goal.invariant-loop-b
invariant-loop-b l = (l.t < 10) × ((l.t + sum (drop l.b-index l.s)) % 10 ≡ sum l.s % 10)
