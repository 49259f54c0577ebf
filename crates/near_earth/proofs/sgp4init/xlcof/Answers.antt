use lib.Ieee.{round, units, odd, size, span, climb, of_bits, neg}
use lib.Count.{count_trailing_zeros}
use Rattle.near_earth.specs.Sgp4init.{xlcof}
use Rattle.near_earth.proofs.sgp4init.xlcof.Goals as goal

pub returns-then-away : goal.returns-then-away
unfolding xlcof round units odd size span climb count_trailing_zeros of_bits neg
returns-then-away c =
    let j3oj2 = c in
    simp (j3oj2.j3oj2.ensures, ← c.abs-away.ensures, c.if-away.true)

pub returns : goal.returns
unfolding xlcof round units odd size span climb count_trailing_zeros of_bits neg
returns c =
    let abs = c in
    simp (c.temp4.ensures, abs.j3oj2.ensures, ← abs.abs-away.ensures, c.if-away.false)
