use lib.Ieee.{round, units, odd, size, span, climb, of_bits, neg}
use lib.Count.{count_trailing_zeros}
use Rattle.near_earth.specs.Sgp4init.{near_earth}
use Rattle.near_earth.proofs.sgp4init.near_earth.Goals as goal

pub returns-then-guard : goal.returns-then-guard
unfolding near_earth round units odd size span climb count_trailing_zeros of_bits neg
returns-then-guard c =
    let guard = c in
    simp (c.filled.ensures, ← guard.guard.ensures, c.if-guard.true)

pub returns : goal.returns
unfolding near_earth round units odd size span climb count_trailing_zeros of_bits neg
returns c =
    let guard = c in
    simp (c.zeroed.ensures, ← guard.guard.ensures, c.if-guard.false)
