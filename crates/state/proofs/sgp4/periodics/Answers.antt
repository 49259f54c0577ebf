use Rattle.state.specs.Sgp4.{periodics}
use Rattle.state.proofs.Ahead.{shortened_ahead}
use Rattle.state.proofs.sgp4.periodics.Goals as goal

pub returns : goal.returns
unfolding periodics
returns c =
    let a = c.before.before in
    let l = a in
    simp (c.shortened.ensures, c.kepler-e.ensures, a.ahead-a.ensures, l.latus-l.ensures, l.long_period-q.ensures) (shortened_ahead _ _ _ _ _)
