use lib.Ieee.{round, units, odd, size, span, climb, of_bits, neg}
use lib.Count.{count_trailing_zeros}
use Rattle.near_earth.specs.Sgp4init.{atmosphere}
use Rattle.near_earth.proofs.sgp4init.atmosphere.Goals as goal

pub returns-then-perige-2 : goal.returns-then-perige-2
unfolding atmosphere round units odd size span climb count_trailing_zeros of_bits neg
returns-then-perige-2 c =
    let if1 = c in
    simp (c.altered.ensures, c.if-perige-2.true, if1.if-perige.true)

pub returns-then-perige : goal.returns-then-perige
unfolding atmosphere round units odd size span climb count_trailing_zeros of_bits neg
returns-then-perige c =
    let if1 = c in
    simp (c.altered-then-perige.ensures, c.if-perige-2.false, if1.if-perige.true)

pub returns : goal.returns
unfolding atmosphere round units odd size span climb count_trailing_zeros of_bits neg
returns c =
    let if1 = c in
    simp (c.qzms2t-qzms24.ensures, c.ss-sfour.ensures, if1.if-perige.false)
