use lib.Ieee.{round, units, odd, size, span, climb, of_bits}
use lib.Count.{count_trailing_zeros}
use Rattle.instant.specs.Greenwich.{quadrant}
use Rattle.instant.proofs.into_turn.Goals as goal

pub returns-then-x : goal.returns-then-x
unfolding quadrant round units odd size span climb count_trailing_zeros of_bits
returns-then-x c = simp c.if-x.true

pub returns : goal.returns
unfolding quadrant round units odd size span climb count_trailing_zeros of_bits
returns c = simp c.if-x.false
