use lib.Ieee.{round, units, odd, size, span, climb, of_bits, neg}
use lib.Count.{count_trailing_zeros}
use Rattle.state.specs.Secular.{delomg_delm}
use Rattle.state.proofs.secular.delomg_delm.Goals as goal

pub returns : goal.returns
unfolding delomg_delm round units odd size span climb count_trailing_zeros of_bits neg
returns c = simp c.pow3.ensures
