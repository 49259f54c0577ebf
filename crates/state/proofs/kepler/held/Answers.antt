use lib.Ieee.{round, units, odd, size, span, climb, of_bits, neg}
use lib.Count.{count_trailing_zeros}
use Rattle.state.specs.Kepler.{held}
use Rattle.state.proofs.kepler.held.Goals as goal

pub returns-then-tem5 : goal.returns-then-tem5
unfolding held round units odd size span climb count_trailing_zeros of_bits neg
returns-then-tem5 c =
    let abs = c in
    simp (← abs.abs-size.ensures, c.if-tem5.true, c.if-size.true)

pub returns-then-size : goal.returns-then-size
unfolding held round units odd size span climb count_trailing_zeros of_bits neg
returns-then-size c =
    let abs = c in
    simp (← abs.abs-size.ensures, c.if-tem5.false, c.if-size.true)

pub returns : goal.returns
unfolding held round units odd size span climb count_trailing_zeros of_bits neg
returns c = simp (← c.abs-size.ensures, c.if-size.false)
