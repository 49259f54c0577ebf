use Rattle.state.specs.Two.{shortened_two}
use Rattle.state.proofs.sgp4.pairs.shortened_two.Goals as goal

pub returns-then-negative_latus : goal.returns-then-negative_latus
unfolding shortened_two
returns-then-negative_latus c = simp (← c.negative_latus-2.ensures, ← c.negative_latus.ensures, c.if-negative_latus.true)

pub returns : goal.returns
unfolding shortened_two
returns c =
    let s = c.before.before in
    let planes = s.before.before.before in
    let f = planes in
    simp (
      c.placed_two.ensures,
      c.short_period-u.ensures,
      s.short_period-s.ensures,
      planes.planes-both.ensures.0,
      planes.planes-both.ensures.1,
      ← f.negative_latus-2.ensures,
      ← f.negative_latus.ensures,
      f.if-negative_latus.false,
    )
