use lib.Ieee.{round, units, odd, size, span, climb, of_bits, neg}
use lib.Count.{count_trailing_zeros}
use Rattle.saddlekerf_profile.proofs.Settled.{some_strides, no_strides}
use Rattle.saddlekerf_profile.proofs.lent.settle.Goals as goal

pub returns-then-marks-eq0 : goal.returns-then-marks-eq0
returns-then-marks-eq0 c =
    let rest = no_strides _ _ c.requires.in_bounds c.requires.in_bounds_2 c.if-marks-eq0.true in
    record { numbers_after = rest.0; marks_after = rest.1 }

pub returns : goal.returns
unfolding round units odd size span climb count_trailing_zeros of_bits neg
returns c =
    let rest = some_strides _ _ c.requires.in_bounds c.requires.in_bounds_2 c.if-marks-eq0.false in
    record { numbers_after = rest.0; marks_after = rest.1 }
