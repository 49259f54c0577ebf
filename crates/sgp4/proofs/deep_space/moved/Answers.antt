use lib.Ieee.{round, units, odd, size, span, climb, of_bits, neg}
use lib.Count.{count_trailing_zeros}
use Rattle.state.specs.Secular.{mean}
use Rattle.state.specs.Kept.{mean_from}
use Rattle.sgp4.specs.DeepSpace.{moved}
use Rattle.sgp4.proofs.deep_space.moved.Goals as goal

pub returns-then-no_motion : goal.returns-then-no_motion
unfolding moved mean mean_from round units odd size span climb count_trailing_zeros of_bits neg
returns-then-no_motion c = simp (← c.no_motion.ensures, c.if-no_motion.true)

pub returns : goal.returns
unfolding moved mean mean_from round units odd size span climb count_trailing_zeros of_bits neg
returns c =
    let two-thirds = c.before.before in
    let xke = two-thirds.before.before in
    let no-motion = xke in
    simp (
      c.averaged.ensures,
      c.mean.ensures,
      two-thirds.two_thirds-a.ensures,
      xke.xke.ensures,
      ← no-motion.no_motion.ensures,
      xke.if-no_motion.false,
    )
