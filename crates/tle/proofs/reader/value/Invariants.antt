use mathlib.Core.Path.{◌≡◌}
use Prim.Native.Nat.{◌<◌, ◌^◌}
use lib.ListN.{drop}
use Rattle.tle.specs.Number.{value_on}
use Rattle.tle.proofs.reader.value.Given as goal

abbrev pub invariant-loop-b : goal.invariant-loop-b
invariant-loop-b l = (l.a < 10 ^ l.b-index) × (value_on l.a (drop l.b-index l.s) ≡ value_on 0 l.s)
