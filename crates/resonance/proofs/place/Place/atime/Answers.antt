use mathlib.Core.Path.{◌∙◌, ap, sym}
use native.Mathlib.Omega.{arith}
use lib.Ieee.{round, units, odd, size, span, climb, of_bits, neg}
use lib.Count.{count_trailing_zeros}
use Rattle.resonance.specs.Place.{atime_of, atime_after}
use Rattle.resonance.proofs.Atime.{forward, backward}
use Rattle.resonance.proofs.place.Place.atime.Goals as goal

pub returns-in-Forward : goal.returns-in-Forward
unfolding atime_of round units odd size span climb count_trailing_zeros of_bits neg
returns-in-Forward c =
    let n = c.args.self.strides.0 in
    forward n (omega arith) ∙ sym (ap (λ d. atime_after d n) c.in-Forward.is)

pub returns-in-Back : goal.returns-in-Back
unfolding atime_of round units odd size span climb count_trailing_zeros of_bits neg
returns-in-Back c =
    let n = c.args.self.strides.0 in
    backward n (omega arith) ∙ sym (ap (λ d. atime_after d n) c.in-Back.is)
