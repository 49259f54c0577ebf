use lib.Ieee.{round, units, odd, size, span, climb, of_bits, neg}
use lib.Count.{count_trailing_zeros}
use Rattle.opening.specs.Ahead.{ahead_of}
use Rattle.opening.proofs.ahead.ahead_of.Goals as goal

pub returns : goal.returns
unfolding ahead_of round units odd size span climb count_trailing_zeros of_bits neg
returns c = simp (c.angles_of-angles.ensures, c.lunar_of-lunar.ensures, c.aonv_ahead-aonv.ensures)
