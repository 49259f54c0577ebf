use lib.Ieee.{round, units, odd, size, span, climb, of_bits, neg}
use lib.Count.{count_trailing_zeros}
use Rattle.resonance.specs.Place.{epoch_of}
use Rattle.resonance.proofs.place.epoch_place.Goals as goal

pub returns : goal.returns
unfolding epoch_of round units odd size span climb count_trailing_zeros of_bits neg
returns c = simp (c.at_epoch-xni.ensures, c.at_epoch-xli.ensures)
