use lib.Ieee.{round, units, odd, size, span, climb, of_bits, neg}
use lib.Count.{count_trailing_zeros}
use Rattle.state.specs.Secular.{angles}
use Rattle.state.proofs.secular.angles.Goals as goal

pub returns : goal.returns
unfolding angles round units odd size span climb count_trailing_zeros of_bits neg
returns c =
    let rem-turn2 = c in
    simp (
      c.rem_turn-mm.ensures,
      c.rem_turn-xlm.ensures,
      rem-turn2.rem_turn-argpm.ensures,
      rem-turn2.rem_turn-nodem.ensures,
    )
