use Rattle.script_steps.proofs.Running.{Running}
use Rattle.script_steps.proofs.run_all.Given as goal

abbrev pub invariant-loop-j : goal.invariant-loop-j
invariant-loop-j l = Running l.initial.s l.lengths l.times l.stations l.spans l.initial.refusals l.initial.states l.initial.rounds l.initial.firsts l.initial.lasts l.initial.strides l.initial.found l.refusals l.states l.rounds l.firsts l.lasts l.strides l.found l.s l.at l.rows l.seen l.j
