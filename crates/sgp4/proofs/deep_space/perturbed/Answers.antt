use lib.Ieee.{round, units, odd, size, span, climb, of_bits, neg}
use lib.Count.{count_trailing_zeros}
use Rattle.sgp4.specs.DeepSpace.{perturbed}
use Rattle.sgp4.proofs.deep_space.perturbed.Goals as goal

pub returns-then-no_ellipse : goal.returns-then-no_ellipse
unfolding perturbed round units odd size span climb count_trailing_zeros of_bits neg
returns-then-no_ellipse c = simp (← c.no_ellipse.ensures, c.if-no_ellipse.true)

pub returns : goal.returns
unfolding perturbed round units odd size span climb count_trailing_zeros of_bits neg
returns c =
    let inclined = c.before.before in
    let if1 = inclined in
    simp (
      c.periodics.ensures,
      c.anew.ensures,
      inclined.inclined.ensures,
      inclined.sin_cos-ip.ensures.sin_value.0,
      inclined.sin_cos-ip.ensures.sin_value.1,
      ← if1.no_ellipse.ensures,
      if1.if-no_ellipse.false,
    )
