use lib.Ieee.{round, units, odd, size, span, climb, of_bits, neg}
use lib.Count.{count_trailing_zeros}
use Rattle.near_earth.specs.Sgp4init.{shape}
use Rattle.near_earth.proofs.sgp4init.shape.Goals as goal

pub returns : goal.returns
unfolding shape round units odd size span climb count_trailing_zeros of_bits neg
returns c =
    let pow4 = c in
    simp (c.seven_halves.ensures, pow4.pow4.ensures, pow4.abs-psisq.ensures)
