use lib.Ieee.{round, units, odd, size, span, climb, of_bits, neg}
use lib.Count.{count_trailing_zeros}
use Rattle.state.specs.Sgp4.{given}
use Rattle.state.proofs.sgp4.given.Goals as goal

pub returns-then-finite_state : goal.returns-then-finite_state
unfolding given round units odd size span climb count_trailing_zeros of_bits neg
returns-then-finite_state c = simp (← c.finite_state.ensures, c.if-finite_state.true)

pub returns : goal.returns
unfolding given round units odd size span climb count_trailing_zeros of_bits neg
returns c = simp (← c.finite_state.ensures, c.if-finite_state.false)
