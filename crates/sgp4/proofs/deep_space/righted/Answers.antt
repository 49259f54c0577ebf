use lib.Ieee.{round, units, odd, size, span, climb, of_bits, neg}
use lib.Count.{count_trailing_zeros}
use Rattle.sgp4.specs.DeepSpace.{righted}
use Rattle.sgp4.proofs.deep_space.righted.Goals as goal

pub returns-then-x : goal.returns-then-x
unfolding righted round units odd size span climb count_trailing_zeros of_bits neg
returns-then-x c = simp c.if-x.true

pub returns : goal.returns
unfolding righted round units odd size span climb count_trailing_zeros of_bits neg
returns c = simp c.if-x.false
