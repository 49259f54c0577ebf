use lib.Ieee.{round, units, odd, size, span, climb, of_bits, neg}
use lib.Count.{count_trailing_zeros}
use Rattle.sgp4.specs.DeepSpace.{averages}
use Rattle.sgp4.proofs.deep_space.averages.Goals as goal

pub returns : goal.returns
unfolding averages round units odd size span climb count_trailing_zeros of_bits neg
returns c = simp c.mended-ep.ensures
