use Prim.Native.Nat.{◌+◌, ◌-◌, ◌≤◌}
use mathlib.Core.Path.{◌≡◌}
use lib.ListN.{length, drop}
use Rattle.text.specs.Input.{line_of}
use Rattle.report.specs.State.{fresh, fed}
use Rattle.report.proofs.feed_whole.Given as goal

abbrev pub invariant-loop-a : goal.invariant-loop-a
invariant-loop-a l = (l.from ≤ l.i) × (l.i ≤ length l.piece) × (l.a ≡ l.i + length (line_of (drop l.i l.piece))) × (l.a ≤ length l.piece) × (fed (fresh l.count) (drop l.i l.piece) ≡ fed (fresh l.initial.count) (drop l.from l.piece))

abbrev pub decreases-loop-a : goal.decreases-loop-a
decreases-loop-a l = length l.piece - l.i
