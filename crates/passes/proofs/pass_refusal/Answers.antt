use mathlib.Core.Path.{ap}
use mathlib.Core.Bool.{not}
use lib.Ieee.{round, units, odd, size, span, climb, of_bits, neg}
use lib.Count.{count_trailing_zeros}
use native.Mathlib.Omega.{arith}
use Rattle.passes.proofs.Steps.{refused_25, refused_26, refused_26_long, refused_not}
use Rattle.passes.proofs.pass_refusal.Goals as goal

pub returns-then-not-on_earth-x : goal.returns-then-not-on_earth-x
unfolding round units odd size span climb count_trailing_zeros of_bits neg
returns-then-not-on_earth-x c = refused_25 _ _ _ _ c.on_earth.ensures (ap not c.if-not-on_earth-x.true)

pub returns-then-seconds-eq0 : goal.returns-then-seconds-eq0
unfolding round units odd size span climb count_trailing_zeros of_bits neg
returns-then-seconds-eq0 c = refused_26 _ _ _ _ c.on_earth.ensures (ap not c.if-not-on_earth-x.false) c.if-seconds-eq0.true

pub returns-then-seconds-gt86400 : goal.returns-then-seconds-gt86400
unfolding round units odd size span climb count_trailing_zeros of_bits neg
returns-then-seconds-gt86400 c = refused_26_long _ _ _ _ c.on_earth.ensures (ap not c.if-not-on_earth-x.false) (omega arith)

pub returns : goal.returns
unfolding round units odd size span climb count_trailing_zeros of_bits neg
returns c =
    refused_not _ _ _ _ c.on_earth.ensures (ap not c.if-not-on_earth-x.false) c.if-seconds-eq0.false (omega arith)
