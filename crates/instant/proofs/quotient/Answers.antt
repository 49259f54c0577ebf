use mathlib.Core.Path.{ap, ◌∙◌}
use native.Mathlib.Omega.{arith}
use lib.Ieee.{Float, binary64, mul, round, units, odd, size, span, climb, of_bits}
use mathlib.Core.Bool.{false}
use lib.Count.{count_trailing_zeros}
use Rattle.instant.proofs.Grow.{grow}
use Rattle.instant.proofs.quotient.Goals as goal

pub returns : goal.returns
unfolding round units odd size span climb count_trailing_zeros of_bits
returns c =
    ap (λ (x : Float). mul binary64 x (round binary64 false 4096 1)) c.long_quotient-2.ensures
    ∙ grow c.args.n c.args.d (omega arith) (omega arith) (omega arith) (omega arith)
