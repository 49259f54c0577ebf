use lib.Ieee.{round, units, odd, size, span, climb, of_bits, neg}
use lib.Count.{count_trailing_zeros}
use Rattle.resonance.specs.Place.{stride}
use Rattle.resonance.proofs.place.Place.stride.Goals as goal

pub returns : goal.returns
unfolding stride round units odd size span climb count_trailing_zeros of_bits neg
returns c =
    let c1 = c in
    simp (c.next_xni-xni.ensures, c.next_xli-xli.ensures, c.dots-d.ensures, c1.delt_of-delt.ensures)
