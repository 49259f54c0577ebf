use lib.Ieee.{round, units, odd, size, span, climb, of_bits, neg}
use lib.Count.{count_trailing_zeros}
use Rattle.resonance.specs.Dots.{half_day_dots}
use Rattle.resonance.proofs.dots.half_day_dots.Goals as goal

pub returns : goal.returns
unfolding half_day_dots round units odd size span climb count_trailing_zeros of_bits neg
returns c = simp (c.half_day_sums.ensures, c.waves_of-w.ensures, c.phases_of-p.ensures)
