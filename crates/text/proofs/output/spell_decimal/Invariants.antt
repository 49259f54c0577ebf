use Rattle.text.specs.Output.{spell}
use lib.ListN.{length, drop}
use Prim.Native.Nat.{◌≤◌, ◌<◌, ◌^◌}
use mathlib.Core.List.{◌++◌}
use mathlib.Core.Path.{◌≡◌}
use Rattle.text.proofs.output.spell_decimal.Given as goal

abbrev pub invariant-loop-rest : goal.invariant-loop-rest
invariant-loop-rest l = (1 ≤ l.i) × (l.i ≤ 20) × (length l.digits ≡ 20) × (l.rest < 10 ^ l.i) × (spell l.i l.rest ++ drop l.i l.digits ≡ spell 20 l.n)

abbrev pub decreases-loop-rest : goal.decreases-loop-rest
decreases-loop-rest l = l.rest
