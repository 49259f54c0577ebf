use lib.Ieee.{round, units, odd, size, span, climb, of_bits, neg}
use lib.Count.{count_trailing_zeros}
use Rattle.state.specs.Secular.{mended}
use Rattle.state.proofs.secular.mended.Goals as goal

pub returns-then-em : goal.returns-then-em
unfolding mended round units odd size span climb count_trailing_zeros of_bits neg
returns-then-em c = simp c.if-em.true

pub returns-else-em : goal.returns-else-em
unfolding mended round units odd size span climb count_trailing_zeros of_bits neg
returns-else-em c = simp c.if-em.false
