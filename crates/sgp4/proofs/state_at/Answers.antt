use lib.Ieee.{round, units, odd, size, span, climb, of_bits, neg}
use lib.Count.{count_trailing_zeros}
use Rattle.sgp4.specs.Kept.{state_from}
use Rattle.sgp4.proofs.state_at.Goals as goal

pub returns : goal.returns
unfolding state_from round units odd size span climb count_trailing_zeros of_bits neg
returns c = simp c.state_by.ensures
