use Rattle.sgp4.specs.Two.{averaged_two}
use Rattle.sgp4.proofs.deep_space.pairs.averaged_two.Goals as goal

pub returns-then-outside : goal.returns-then-outside
unfolding averaged_two
returns-then-outside c = simp (← c.outside-2.ensures, ← c.outside.ensures, c.if-outside.true)

pub returns : goal.returns
unfolding averaged_two
returns c =
    let a = c.before in
    let f = a in
    simp (
      c.perturbed_two.ensures,
      c.righted-2.ensures,
      c.righted.ensures,
      c.dpper-y2.ensures,
      c.dpper-y.ensures,
      a.averages-x2.ensures,
      a.angles-2.ensures,
      a.averages-x.ensures,
      a.angles.ensures,
      ← f.outside-2.ensures,
      ← f.outside.ensures,
      f.if-outside.false,
    )
