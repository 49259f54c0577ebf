use mathlib.Core.Path.{◌∙◌, ap, sym}
use lib.Ieee.{round, units, odd, size, span, climb, of_bits, neg}
use lib.Count.{count_trailing_zeros}
use Rattle.resonance.specs.Dots.{dots_of}
use Rattle.resonance.proofs.dots.dots_of.Goals as goal

pub returns-in-None : goal.returns-in-None
unfolding dots_of round units odd size span climb count_trailing_zeros of_bits neg
returns-in-None c = let a = c.args in sym (ap (λ k. dots_of k a.xli a.xni a.xfact a.xomi) c.in-None.is)

pub returns-in-OneDay : goal.returns-in-OneDay
unfolding dots_of
returns-in-OneDay c =
    let a = c.args in
    c.one_day_dots.ensures ∙ sym (ap (λ k. dots_of k a.xli a.xni a.xfact a.xomi) c.in-OneDay.is)

pub returns-in-HalfDay : goal.returns-in-HalfDay
unfolding dots_of
returns-in-HalfDay c =
    let a = c.args in
    c.half_day_dots.ensures ∙ sym (ap (λ k. dots_of k a.xli a.xni a.xfact a.xomi) c.in-HalfDay.is)
