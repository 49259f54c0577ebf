use lib.Ieee.{round, units, odd, size, span, climb, of_bits, neg}
use lib.Count.{count_trailing_zeros}
use Rattle.periodics.specs.Dpper.{lyddane_node}
use Rattle.periodics.proofs.dpper.lyddane_point.Goals as goal

pub returns : goal.returns
unfolding lyddane_node round units odd size span climb count_trailing_zeros of_bits neg
returns c =
    let s = c in
    simp (s.sin_cos-op.ensures.sin_value.0, s.sin_cos-op.ensures.sin_value.1)
