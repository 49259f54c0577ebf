use lib.Ieee.{round, units, odd, size, span, climb, of_bits, neg}
use lib.Count.{count_trailing_zeros}
use Rattle.state.specs.Secular.{dragged}
use Rattle.state.proofs.secular.dragged.Goals as goal

pub returns : goal.returns
unfolding dragged round units odd size span climb count_trailing_zeros of_bits neg
returns c =
    let delomg-delm = c in
    simp (
      c.higher_drag.ensures,
      c.sin.ensures,
      delomg-delm.delomg_delm-temp.ensures,
      delomg-delm.cos.ensures,
    )
