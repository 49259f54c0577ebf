use Prim.Native.Nat.{◌+◌}
use mathlib.Core.Bool.{true}
use mathlib.Core.Path.{◌≡◌}
use lib.ListN.{drop}
use Rattle.columns.specs.Layout.{agreed}
use Rattle.columns.proofs.layout.count_agreeing.Given as goal

abbrev pub invariant-loop-i : goal.invariant-loop-i
invariant-loop-i l = l.i + agreed (drop l.i l.layout) l.after (drop l.i l.line) ≡ agreed l.layout true l.line
