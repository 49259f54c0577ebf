use lib.Ieee.{round, units, odd, size, span, climb, of_bits, neg}
use lib.Count.{count_trailing_zeros}
use Rattle.horizon.specs.Horizon.{about_turn}
use Rattle.horizon.proofs.about_turn.Goals as goal

pub returns-then-x : goal.returns-then-x
unfolding about_turn round units odd size span climb count_trailing_zeros of_bits neg
returns-then-x c = simp c.if-x.true

pub returns : goal.returns
unfolding about_turn round units odd size span climb count_trailing_zeros of_bits neg
returns c = simp c.if-x.false
