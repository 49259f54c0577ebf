use Rattle.state.specs.Secular.{mean}
use Rattle.state.specs.Kept.{mean_from}
use Rattle.sgp4.specs.Two.{drift_of, moved_two}
use Rattle.sgp4.proofs.deep_space.pairs.moved_two.Goals as goal

pub returns-then-no_motion : goal.returns-then-no_motion
unfolding moved_two
returns-then-no_motion c = simp (← c.no_motion-2.ensures, ← c.no_motion.ensures, c.if-no_motion.true)

pub returns : goal.returns
unfolding moved_two drift_of mean mean_from
returns c =
    simp (
      c.averaged_two.ensures,
      c.mean-m2.ensures,
      c.mean-m.ensures,
      c.two_thirds-a2.ensures,
      c.xke-2.ensures,
      c.two_thirds-a.ensures,
      c.xke.ensures,
      ← c.no_motion-2.ensures,
      ← c.no_motion.ensures,
      c.if-no_motion.false,
    )
