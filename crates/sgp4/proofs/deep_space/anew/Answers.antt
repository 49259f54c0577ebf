use lib.Ieee.{round, units, odd, size, span, climb, of_bits, neg}
use lib.Count.{count_trailing_zeros}
use Rattle.sgp4.specs.DeepSpace.{anew}
use Rattle.sgp4.proofs.deep_space.anew.Goals as goal

pub returns : goal.returns
unfolding anew round units odd size span climb count_trailing_zeros of_bits neg
returns c = simp (c.aycof-aycof.ensures, c.xlcof-xlcof.ensures)
