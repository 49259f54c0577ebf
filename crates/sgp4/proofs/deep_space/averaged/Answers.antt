use lib.Ieee.{round, units, odd, size, span, climb, of_bits, neg}
use lib.Count.{count_trailing_zeros}
use Rattle.sgp4.specs.DeepSpace.{averaged}
use Rattle.sgp4.proofs.deep_space.averaged.Goals as goal

pub returns-then-outside : goal.returns-then-outside
unfolding averaged round units odd size span climb count_trailing_zeros of_bits neg
returns-then-outside c = simp (← c.outside.ensures, c.if-outside.true)

pub returns : goal.returns
unfolding averaged round units odd size span climb count_trailing_zeros of_bits neg
returns c =
    let angles = c.before.before in
    let outside = angles in
    simp (
      c.perturbed.ensures,
      c.righted.ensures,
      c.dpper.ensures,
      c.averages-x.ensures,
      angles.angles.ensures,
      ← outside.outside.ensures,
      angles.if-outside.false,
    )
