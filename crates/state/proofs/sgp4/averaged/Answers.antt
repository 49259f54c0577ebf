use lib.Ieee.{round, units, odd, size, span, climb, of_bits, neg}
use lib.Count.{count_trailing_zeros}
use Rattle.state.specs.Kept.{averaged_from}
use Rattle.state.proofs.sgp4.averaged.Goals as goal

pub returns-then-outside : goal.returns-then-outside
unfolding averaged_from round units odd size span climb count_trailing_zeros of_bits neg
returns-then-outside c = simp (← c.outside.ensures, c.if-outside.true)

pub returns : goal.returns
unfolding averaged_from round units odd size span climb count_trailing_zeros of_bits neg
returns c =
    let unperturbed = c.before.before in
    let if1 = unperturbed in
    simp (
      c.periodics.ensures,
      unperturbed.unperturbed-p.ensures,
      unperturbed.angles.ensures,
      ← if1.outside.ensures,
      if1.if-outside.false,
    )
