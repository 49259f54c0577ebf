use Rattle.state.proofs.Rounds.{Left}
use Rattle.state.proofs.kepler.pairs.kepler_two.Given as goal

abbrev pub invariant-loop-n : goal.invariant-loop-n
invariant-loop-n l = Left l.q l.a l.n × Left l.q2 l.b l.n
