use lib.Ieee.{round, units, odd, size, span, climb, of_bits, neg}
use lib.Count.{count_trailing_zeros}
use Rattle.state.specs.Periodics.{short_period}
use Rattle.state.proofs.periodics.short_period.Goals as goal

pub returns : goal.returns
unfolding short_period round units odd size span climb count_trailing_zeros of_bits neg
returns c =
    let xke = c in
    simp (c.xke-2.ensures, xke.xke.ensures)
