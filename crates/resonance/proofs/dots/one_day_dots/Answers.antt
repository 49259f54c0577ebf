use lib.Ieee.{round, units, odd, size, span, climb, of_bits, neg}
use lib.Count.{count_trailing_zeros}
use Rattle.resonance.specs.Dots.{one_day_dots}
use Rattle.resonance.proofs.dots.one_day_dots.Goals as goal

pub returns : goal.returns
unfolding one_day_dots round units odd size span climb count_trailing_zeros of_bits neg
returns c =
    let c1 = c.before.before in
    let c2 = c1.before.before in
    let c3 = c2.before.before in
    let c4 = c3.before.before in
    let c5 = c4.before.before in
    let c6 = c5 in
    simp (c5.sin_cos-c.ensures.sin_value.0, c5.sin_cos-c.ensures.sin_value.1, c6.sin_cos-b.ensures.sin_value.0, c6.sin_cos-b.ensures.sin_value.1, c6.sin_cos-a.ensures.sin_value.0, c6.sin_cos-a.ensures.sin_value.1)
