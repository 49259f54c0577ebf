use lib.Ieee.{round, units, odd, size, span, climb, of_bits, neg}
use lib.Count.{count_trailing_zeros}
use Rattle.periodics.specs.Dpper.{changes_at, zm_of}
use Rattle.periodics.proofs.dpper.changes_at.Goals as goal

pub returns : goal.returns
unfolding changes_at zm_of round units odd size span climb count_trailing_zeros of_bits neg
returns c =
    let c1 = c.before.before in
    let c2 = c1 in
    simp (c.changes_of.ensures, c.sums_of-m.ensures, c.factors_of-wl.ensures, c1.sums_of-s.ensures, c2.factors_of-ws.ensures)
