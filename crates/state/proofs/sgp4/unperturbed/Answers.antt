use lib.Ieee.{round, units, odd, size, span, climb, of_bits, neg}
use lib.Count.{count_trailing_zeros}
use Rattle.state.specs.Kept.{unperturbed_from}
use Rattle.state.proofs.sgp4.unperturbed.Goals as goal

pub returns : goal.returns
unfolding unperturbed_from round units odd size span climb count_trailing_zeros of_bits neg
returns c = simp c.mended-ep.ensures
