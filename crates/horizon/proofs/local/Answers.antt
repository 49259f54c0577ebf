use lib.Ieee.{round, units, odd, size, span, climb, of_bits, neg}
use lib.Count.{count_trailing_zeros}
use Rattle.horizon.specs.Horizon.{local}
use Rattle.horizon.proofs.local.Goals as goal

pub returns : goal.returns
unfolding local round units odd size span climb count_trailing_zeros of_bits neg
returns c = simp c.turned.ensures
