use lib.Ieee.{round, units, odd, size, span, climb, of_bits, neg}
use lib.Count.{count_trailing_zeros}
use Rattle.earth_fixed.specs.Frame.{visible_of}
use Rattle.earth_fixed.proofs.visible.Goals as goal

pub returns : goal.returns
unfolding visible_of round units odd size span climb count_trailing_zeros of_bits neg
returns c = simp c.dot.ensures
