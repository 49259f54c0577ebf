use lib.Ieee.{round, units, odd, size, span, climb, of_bits, neg}
use lib.Count.{count_trailing_zeros}
use Rattle.state.specs.Periodics.{long_period}
use Rattle.state.proofs.periodics.long_period.Goals as goal

pub returns : goal.returns
unfolding long_period round units odd size span climb count_trailing_zeros of_bits neg
returns c =
    let sin-cos = c in
    simp (c.rem_turn-u.ensures, sin-cos.sin_cos-w.ensures.sin_value.0, sin-cos.sin_cos-w.ensures.sin_value.1)
