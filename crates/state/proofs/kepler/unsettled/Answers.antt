use lib.Ieee.{round, units, odd, size, span, climb, of_bits, neg}
use lib.Count.{count_trailing_zeros}
use Rattle.state.specs.Kepler.{unsettled}
use Rattle.state.proofs.kepler.unsettled.Goals as goal

pub returns : goal.returns
unfolding unsettled round units odd size span climb count_trailing_zeros of_bits neg
returns c = simp c.abs.ensures
