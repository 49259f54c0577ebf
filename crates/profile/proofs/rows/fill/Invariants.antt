use Rattle.profile.proofs.Filling.{Filling}
use Rattle.profile.proofs.rows.fill.Given as goal

-- The invariant is `Filling`, whose laws say how it starts, goes on and ends.
abbrev pub invariant-loop-i : goal.invariant-loop-i
invariant-loop-i l = Filling l.near l.times l.initial.refusals l.initial.states l.initial.rounds l.refusals l.states l.rounds l.any l.i
