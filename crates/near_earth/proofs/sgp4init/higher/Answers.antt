use lib.Ieee.{round, units, odd, size, span, climb, of_bits, neg}
use lib.Count.{count_trailing_zeros}
use Rattle.near_earth.specs.Sgp4init.{higher}
use Rattle.near_earth.proofs.sgp4init.higher.Goals as goal

pub returns-then-isimp : goal.returns-then-isimp
unfolding higher round units odd size span climb count_trailing_zeros of_bits neg
returns-then-isimp c = simp c.if-isimp.true

pub returns : goal.returns
unfolding higher round units odd size span climb count_trailing_zeros of_bits neg
returns c = simp c.if-isimp.false
