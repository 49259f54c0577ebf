use lib.Ieee.{round, units, odd, size, span, climb, of_bits, neg}
use lib.Count.{count_trailing_zeros}
use Rattle.state.specs.Ahead.{shortened_from}
use Rattle.state.proofs.sgp4.shortened.Goals as goal

pub returns-then-negative_latus : goal.returns-then-negative_latus
unfolding shortened_from round units odd size span climb count_trailing_zeros of_bits neg
returns-then-negative_latus c = simp (← c.negative_latus.ensures, c.if-negative_latus.true)

pub returns : goal.returns
unfolding shortened_from round units odd size span climb count_trailing_zeros of_bits neg
returns c =
    let plane = c.before.before in
    let negative-latus = plane in
    simp (
      c.placed.ensures,
      c.short_period.ensures,
      plane.plane.ensures,
      ← negative-latus.negative_latus.ensures,
      plane.if-negative_latus.false,
    )
