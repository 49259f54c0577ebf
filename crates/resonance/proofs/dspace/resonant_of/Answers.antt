use mathlib.Core.Path.{ap, sym}
use lib.Ieee.{round, units, odd, size, span, climb, of_bits, neg}
use lib.Count.{count_trailing_zeros}
use Rattle.resonance.specs.Dspace.{changed_of, resonant_of}
use Rattle.resonance.proofs.dspace.resonant_of.Goals as goal

pub returns-in-None : goal.returns-in-None
unfolding changed_of resonant_of round units odd size span climb count_trailing_zeros of_bits neg
returns-in-None c = let a = c.args in sym (ap (λ k. resonant_of k a.i a.nm a.xl a.theta a.m) c.in-None.is)

pub returns-in-OneDay : goal.returns-in-OneDay
unfolding changed_of resonant_of round units odd size span climb count_trailing_zeros of_bits neg
returns-in-OneDay c =
    let b = c in
    let a = b.args in
    sym (ap (λ k. resonant_of k a.i a.nm a.xl a.theta a.m) c.in-OneDay.is)

pub returns-in-HalfDay : goal.returns-in-HalfDay
unfolding changed_of resonant_of round units odd size span climb count_trailing_zeros of_bits neg
returns-in-HalfDay c =
    let b = c in
    let a = b.args in
    sym (ap (λ k. resonant_of k a.i a.nm a.xl a.theta a.m) c.in-HalfDay.is)
