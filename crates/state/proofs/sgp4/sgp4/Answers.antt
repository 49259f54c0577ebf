use lib.Ieee.{round, units, odd, size, span, climb, of_bits, neg}
use lib.Count.{count_trailing_zeros}
use Rattle.state.specs.Kept.{sgp4_from}
use Rattle.state.proofs.sgp4.sgp4.Goals as goal

pub returns-then-no_motion : goal.returns-then-no_motion
unfolding sgp4_from round units odd size span climb count_trailing_zeros of_bits neg
returns-then-no_motion c =
    let secular = c in
    simp (secular.secular-g.ensures, ← c.no_motion.ensures, c.if-no_motion.true)

pub returns : goal.returns
unfolding sgp4_from round units odd size span climb count_trailing_zeros of_bits neg
returns c =
    let if1 = c.before.before in
    let secular = if1 in
    simp (
      c.averaged.ensures,
      c.mean.ensures,
      secular.secular-g.ensures,
      ← if1.no_motion.ensures,
      if1.if-no_motion.false,
    )
