use lib.Ieee.{round, units, odd, size, span, climb, of_bits, neg}
use lib.Count.{count_trailing_zeros}
use Rattle.periodics.specs.Dpper.{lyddane_of}
use Rattle.periodics.proofs.dpper.lyddane_at.Goals as goal

pub returns : goal.returns
unfolding lyddane_of round units odd size span climb count_trailing_zeros of_bits neg
returns c =
    let t = c.before.before in
    let n = t in
    simp (t.turn_of-nodep.ensures, t.abs-apart.ensures, n.rem_turn-xnoh.ensures, n.requires)
