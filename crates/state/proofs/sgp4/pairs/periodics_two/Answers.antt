use Rattle.state.specs.Two.{solved_of, periodics_two}
use Rattle.state.proofs.sgp4.pairs.periodics_two.Goals as goal

pub returns : goal.returns
unfolding periodics_two solved_of
returns c =
    let k = c.before.before.before in
    let a = k.before in
    let l = a.before.before in
    let q = l in
    simp (
      c.shortened_two.ensures,
      k.kepler_two-solved.ensures.0,
      k.kepler_two-solved.ensures.1,
      a.ahead-second.ensures,
      a.ahead-first.ensures,
      l.latus-l2.ensures,
      l.latus-l.ensures,
      q.long_period-q2.ensures,
      q.long_period-q.ensures,
    )
