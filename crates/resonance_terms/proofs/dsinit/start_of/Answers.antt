use mathlib.Core.Path.{◌∙◌, ap, sym}
use lib.Ieee.{round, units, odd, size, span, climb, of_bits, neg}
use lib.Count.{count_trailing_zeros}
use Rattle.resonance_terms.specs.Dsinit.{start_of}
use Rattle.resonance_terms.proofs.dsinit.start_of.Goals as goal

pub returns-in-None : goal.returns-in-None
unfolding start_of round units odd size span climb count_trailing_zeros of_bits neg
returns-in-None c = let a = c.args in sym (ap (λ k. start_of k a.e a.s a.theta) c.in-None.is)

pub returns-in-OneDay : goal.returns-in-OneDay
unfolding start_of
returns-in-OneDay c =
    let a = c.args in
    c.one_day_start.ensures ∙ sym (ap (λ k. start_of k a.e a.s a.theta) c.in-OneDay.is)

pub returns-in-HalfDay : goal.returns-in-HalfDay
unfolding start_of
returns-in-HalfDay c =
    let a = c.args in
    c.half_day_start.ensures ∙ sym (ap (λ k. start_of k a.e a.s a.theta) c.in-HalfDay.is)
