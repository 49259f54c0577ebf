use lib.Ieee.{round, units, odd, size, span, climb, of_bits, neg}
use lib.Count.{count_trailing_zeros}
use Rattle.opening.specs.Opening.{above}
use Rattle.opening.proofs.opening.above.Goals as goal

pub returns-then-i : goal.returns-then-i
unfolding above round units odd size span climb count_trailing_zeros of_bits neg
returns-then-i c = simp c.if-i.true

pub returns : goal.returns
unfolding above round units odd size span climb count_trailing_zeros of_bits neg
returns c = simp (c.if-i.false, c.checked.ensures, c.model_of.ensures)
