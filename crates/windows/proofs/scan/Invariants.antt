use Rattle.windows.specs.Scan.{is_seen, instant_at}
use Rattle.windows.proofs.Scanning.{Scanning}
use Rattle.windows.proofs.scan.Given as goal

abbrev pub invariant-loop-i : goal.invariant-loop-i
invariant-loop-i l = Scanning (is_seen l.station l.start l.step l.refusals l.states) (instant_at l.start l.step) l.k l.initial.firsts l.initial.lasts l.firsts l.lasts l.n l.run l.i
