use Rattle.state.specs.Two.{ready_of, averaged_two}
use Rattle.state.proofs.sgp4.pairs.averaged_two.Goals as goal

pub returns-then-outside : goal.returns-then-outside
unfolding averaged_two
returns-then-outside c = simp (← c.outside-2.ensures, ← c.outside.ensures, c.if-outside.true)

pub returns : goal.returns
unfolding averaged_two ready_of
returns c =
    let u = c.before.before in
    let f = u in
    simp (
      c.unperturbed-p2.ensures,
      c.angles-2.ensures,
      u.unperturbed-p.ensures,
      u.angles.ensures,
      ← f.outside-2.ensures,
      ← f.outside.ensures,
      f.if-outside.false,
    )
