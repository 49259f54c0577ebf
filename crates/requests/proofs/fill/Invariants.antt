use Rattle.std.proofs.Common.{◌*◌}
use Rattle.resonance.specs.Held.{Right}
use Rattle.sgp4.specs.Sgp4.{integrator_of}
use Rattle.requests.proofs.Filling.{Filling}
use Rattle.requests.proofs.fill.Given as goal

-- The invariant is `Filling`, whose laws say how it starts, goes on and ends.
abbrev pub invariant-loop-k : goal.invariant-loop-k
invariant-loop-k l = Filling l.times l.initial.refusals l.initial.states l.initial.rounds l.model l.initial.h.place l.refusals l.states l.rounds l.h.place l.total (2 * l.k) × Right (integrator_of l.model) l.h
