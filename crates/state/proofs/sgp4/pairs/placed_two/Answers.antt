use Rattle.state.specs.Two.{placed_two}
use Rattle.state.proofs.sgp4.pairs.placed_two.Goals as goal

pub returns-then-decayed : goal.returns-then-decayed
unfolding placed_two
returns-then-decayed c = simp (← c.decayed-2.ensures, ← c.decayed.ensures, c.if-decayed.true)

pub returns : goal.returns
unfolding placed_two
returns c =
    let s = c.before.before in
    let f = s in
    simp (
      c.given-2.ensures,
      c.given.ensures,
      s.state-b.ensures,
      s.state-a.ensures,
      ← f.decayed-2.ensures,
      ← f.decayed.ensures,
      f.if-decayed.false,
    )
