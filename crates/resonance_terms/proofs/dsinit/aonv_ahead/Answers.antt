use lib.Ieee.{round, units, odd, size, span, climb, of_bits, neg}
use lib.Count.{count_trailing_zeros}
use Rattle.resonance_terms.specs.Ahead.{aonv_ahead}
use Rattle.resonance_terms.proofs.dsinit.aonv_ahead.Goals as goal

pub returns-then-is_half_day-is_one_day : goal.returns-then-is_half_day-is_one_day
unfolding aonv_ahead
returns-then-is_half_day-is_one_day c =
    let b = c in
    simp (c.aonv_of.ensures, ← b.is_one_day.ensures, ← b.is_half_day.ensures, c.if-is_half_day-is_one_day.true)

pub returns : goal.returns
unfolding aonv_ahead round units odd size span climb count_trailing_zeros of_bits neg
returns c =
    let b = c in
    simp (← b.is_one_day.ensures, ← b.is_half_day.ensures, c.if-is_half_day-is_one_day.false)
