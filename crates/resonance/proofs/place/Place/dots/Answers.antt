use lib.Ieee.{round, units, odd, size, span, climb, of_bits, neg}
use lib.Count.{count_trailing_zeros}
use Rattle.resonance.specs.Place.{dots_at}
use Rattle.resonance.proofs.place.Place.dots.Goals as goal

pub returns : goal.returns
unfolding dots_at round units odd size span climb count_trailing_zeros of_bits neg
returns c =
    let c1 = c in
    simp (c.dots_of.ensures, c1.atime-atime.ensures)
