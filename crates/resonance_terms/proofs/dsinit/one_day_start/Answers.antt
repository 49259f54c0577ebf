use lib.Ieee.{round, units, odd, size, span, climb, of_bits, neg}
use lib.Count.{count_trailing_zeros}
use Rattle.resonance_terms.specs.Dsinit.{one_day_start}
use Rattle.resonance_terms.proofs.dsinit.one_day_start.Goals as goal

pub returns : goal.returns
unfolding one_day_start round units odd size span climb count_trailing_zeros of_bits neg
returns c =
    let c1 = c.before.before in
    let c2 = c1 in
    simp c2.rem_turn.ensures
