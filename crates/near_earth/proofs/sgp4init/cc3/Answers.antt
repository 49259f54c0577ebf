use lib.Ieee.{round, units, odd, size, span, climb, of_bits, neg}
use lib.Count.{count_trailing_zeros}
use Rattle.near_earth.specs.Sgp4init.{cc3}
use Rattle.near_earth.proofs.sgp4init.cc3.Goals as goal

pub returns-then-ecco : goal.returns-then-ecco
unfolding cc3 round units odd size span climb count_trailing_zeros of_bits neg
returns-then-ecco c =
    let j3oj2 = c.before.before in
    let if1 = j3oj2 in
    simp (j3oj2.j3oj2.ensures, if1.if-ecco.true)

pub returns : goal.returns
unfolding cc3 round units odd size span climb count_trailing_zeros of_bits neg
returns c = simp c.if-ecco.false
