use lib.Ieee.{round, units, odd, size, span, climb, of_bits, neg}
use lib.Count.{count_trailing_zeros}
use Rattle.periodics.specs.Dpper.{factors_of}
use Rattle.periodics.proofs.dpper.factors_of.Goals as goal

pub returns : goal.returns
unfolding factors_of round units odd size span climb count_trailing_zeros of_bits neg
returns c = simp (c.sin_cos-zf.ensures.sin_value.0, c.sin_cos-zf.ensures.sin_value.1, c.sin.ensures)
