use Rattle.std.proofs.Common.{length}
use Rattle.windows.proofs.Timing.{Timing}
use Rattle.windows.proofs.fill_times.Given as goal

abbrev pub invariant-loop-k : goal.invariant-loop-k
invariant-loop-k l = Timing l.epoch l.start l.step l.samples (length l.initial.times) l.times l.t l.k
