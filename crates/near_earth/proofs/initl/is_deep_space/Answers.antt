use lib.Ieee.{round, units, odd, size, span, climb, of_bits, neg}
use lib.Count.{count_trailing_zeros}
use Rattle.near_earth.specs.Initl.{deep_space}
use Rattle.near_earth.proofs.initl.is_deep_space.Goals as goal

pub returns : goal.returns
unfolding deep_space round units odd size span climb count_trailing_zeros of_bits neg
returns c = simp (← c.guard.ensures)
