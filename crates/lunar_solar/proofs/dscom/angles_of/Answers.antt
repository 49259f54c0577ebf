use lib.Ieee.{round, units, odd, size, span, climb, of_bits, neg}
use lib.Count.{count_trailing_zeros}
use Rattle.lunar_solar.specs.Dscom.{angles_of}
use Rattle.lunar_solar.proofs.dscom.angles_of.Goals as goal

pub returns : goal.returns
unfolding angles_of round units odd size span climb count_trailing_zeros of_bits neg
returns c =
    simp (c.sin_cos-incl.ensures.sin_value.0, c.sin_cos-incl.ensures.sin_value.1, c.sin_cos-argp.ensures.sin_value.0, c.sin_cos-argp.ensures.sin_value.1, c.sin_cos-node.ensures.sin_value.0, c.sin_cos-node.ensures.sin_value.1)
