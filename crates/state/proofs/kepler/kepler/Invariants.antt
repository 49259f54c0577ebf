use Rattle.state.proofs.Rounds.{Left}
use Rattle.state.proofs.kepler.kepler.Given as goal

abbrev pub invariant-loop-n : goal.invariant-loop-n
invariant-loop-n l = Left l.q l.k l.n
