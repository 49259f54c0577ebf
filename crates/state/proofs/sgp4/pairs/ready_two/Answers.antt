use Rattle.state.specs.Two.{ready_two}
use Rattle.state.proofs.sgp4.pairs.ready_two.Goals as goal

pub returns-then-no_motion : goal.returns-then-no_motion
unfolding ready_two
returns-then-no_motion c = simp (← c.no_motion.ensures, c.if-no_motion.true)

pub returns : goal.returns
unfolding ready_two
returns c =
    let f = c in
    simp (
      c.averaged_two.ensures,
      c.mean-2.ensures,
      c.mean.ensures,
      f.secular-g2.ensures,
      f.secular-g.ensures,
      ← f.no_motion.ensures,
      f.if-no_motion.false,
    )
