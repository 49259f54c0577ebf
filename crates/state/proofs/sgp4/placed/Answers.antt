use lib.Ieee.{round, units, odd, size, span, climb, of_bits, neg}
use lib.Count.{count_trailing_zeros}
use Rattle.state.specs.Sgp4.{placed}
use Rattle.state.proofs.sgp4.placed.Goals as goal

pub returns-then-decayed : goal.returns-then-decayed
unfolding placed round units odd size span climb count_trailing_zeros of_bits neg
returns-then-decayed c = simp (← c.decayed.ensures, c.if-decayed.true)

pub returns : goal.returns
unfolding placed round units odd size span climb count_trailing_zeros of_bits neg
returns c =
    let if1 = c in
    simp (c.given.ensures, c.state.ensures, ← if1.decayed.ensures, if1.if-decayed.false)
