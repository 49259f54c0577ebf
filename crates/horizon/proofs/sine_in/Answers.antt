use lib.Ieee.{round, units, odd, size, span, climb, of_bits, neg}
use lib.Count.{count_trailing_zeros}
use Rattle.horizon.specs.Horizon.{sine_in}
use Rattle.horizon.proofs.sine_in.Goals as goal

pub returns : goal.returns
unfolding sine_in round units odd size span climb count_trailing_zeros of_bits neg
returns c = simp c.sqrt.ensures
