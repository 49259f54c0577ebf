use mathlib.Core.Path.{ap, sym}
use lib.Ieee.{round, units, odd, size, span, climb, of_bits, neg}
use lib.Count.{count_trailing_zeros}
use Rattle.lunar_solar.specs.Dsinit.{joined_by, joined_of}
use Rattle.lunar_solar.proofs.dsinit.joined.Goals as goal

pub returns-then-sinim : goal.returns-then-sinim
unfolding joined_by joined_of round units odd size span climb count_trailing_zeros of_bits neg
returns-then-sinim c =
    let a = c.args in
    sym (ap (λ b. joined_by b a.s a.m a.shs a.shll a.o) c.if-sinim.true)

pub returns : goal.returns
unfolding joined_by joined_of round units odd size span climb count_trailing_zeros of_bits neg
returns c =
    let a = c.args in
    sym (ap (λ b. joined_by b a.s a.m a.shs a.shll a.o) c.if-sinim.false)
