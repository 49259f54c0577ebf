use Rattle.std.proofs.Common.{◌≡◌, drop}
use Rattle.report.specs.State.{fed}
use Rattle.report.proofs.feed_pair.Given as goal

abbrev pub invariant-loop-i : goal.invariant-loop-i
invariant-loop-i l = fed (record { lines = l.lines; count = l.count }) (drop l.i l.piece) ≡ fed (record { lines = l.initial.lines; count = l.count }) (drop l.from l.piece)
