use lib.Ieee.{round, units, odd, size, span, climb, of_bits, neg}
use lib.Count.{count_trailing_zeros}
use Rattle.resonance.specs.Dots.{waves_of}
use Rattle.resonance.proofs.dots.waves_of.Goals as goal

pub returns : goal.returns
unfolding waves_of round units odd size span climb count_trailing_zeros of_bits neg
returns c =
    let c1 = c.before.before in
    let c2 = c1.before.before in
    let c3 = c2.before.before in
    let c4 = c3 in
    simp (c.sin_cos-10.ensures.value, c.sin_cos-9.ensures.value, c.sin_cos-8.ensures.value, c1.sin_cos-7.ensures.value, c1.sin_cos-6.ensures.value, c2.sin_cos-5.ensures.value, c2.sin_cos-4.ensures.value, c3.sin_cos-3.ensures.value, c3.sin_cos-2.ensures.value, c4.sin_cos.ensures.value)
