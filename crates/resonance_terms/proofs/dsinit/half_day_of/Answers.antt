use lib.Ieee.{round, units, odd, size, span, climb, of_bits, neg}
use lib.Count.{count_trailing_zeros}
use Rattle.resonance_terms.specs.Dsinit.{half_day_of}
use Rattle.resonance_terms.proofs.dsinit.half_day_of.Goals as goal

pub returns : goal.returns
unfolding half_day_of round units odd size span climb count_trailing_zeros of_bits neg
returns c =
    let c1 = c in
    simp (c.half_day_sum.ensures, c.high_of-k.ensures, c.low_of-g.ensures, c1.inclined_of-f.ensures)
