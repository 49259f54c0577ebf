use lib.Ieee.{round, units, odd, size, span, climb, of_bits, neg}
use lib.Count.{count_trailing_zeros}
use Rattle.state.specs.Secular.{secular}
use Rattle.state.proofs.secular.secular.Goals as goal

pub returns-then-s : goal.returns-then-s
unfolding secular round units odd size span climb count_trailing_zeros of_bits neg
returns-then-s c = simp (c.gravity-g.ensures, c.if-s.true)

pub returns : goal.returns
unfolding secular round units odd size span climb count_trailing_zeros of_bits neg
returns c =
    let gravity = c in
    simp (c.dragged.ensures, gravity.gravity-g.ensures, c.if-s.false)
