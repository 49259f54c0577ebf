use lib.Ieee.{round, units, odd, size, span, climb, of_bits, neg}
use lib.Count.{count_trailing_zeros}
use Rattle.periodics.specs.Dpper.{dpper_of}
use Rattle.periodics.proofs.dpper.dpper.Goals as goal

pub returns : goal.returns
unfolding dpper_of round units odd size span climb count_trailing_zeros of_bits neg
returns c =
    let c1 = c in
    simp (c.applied.ensures, c.sin_cos-ip.ensures.sin_value.0, c.sin_cos-ip.ensures.sin_value.1, c.inclined-y.ensures, c1.changes_at-k.ensures)
