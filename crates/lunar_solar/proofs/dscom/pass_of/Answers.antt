use lib.Ieee.{round, units, odd, size, span, climb, of_bits, neg}
use lib.Count.{count_trailing_zeros}
use Rattle.lunar_solar.specs.Dscom.{pass_of}
use Rattle.lunar_solar.proofs.dscom.pass_of.Goals as goal

pub returns : goal.returns
unfolding pass_of round units odd size span climb count_trailing_zeros of_bits neg
returns c = simp (c.z_of.ensures, c.s_of.ensures, c.axes_of-x.ensures)
