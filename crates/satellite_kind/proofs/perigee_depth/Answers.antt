use lib.Ieee.{round, units, odd, size, span, climb, of_bits, neg}
use lib.Count.{count_trailing_zeros}
use Rattle.satellite_kind.specs.Kind.{perigee_depth}
use Rattle.satellite_kind.proofs.perigee_depth.Goals as goal

pub returns : goal.returns
unfolding perigee_depth round units odd size span climb count_trailing_zeros of_bits neg
returns c = simp (c.initl-i.ensures, c.elements_of-el.ensures)
