use mathlib.Core.Path.{ap, ◌∙◌}
use mathlib.Core.Bool.{false}
use Prim.Native.Nat.{ℕ}
use borrow.Author.Tests.{le-leb, lt-leb}
use lib.Ieee.{binary64, div, round, of_bits}
use Rattle.instant.specs.Quantity.{decimal_of}
use Rattle.instant.proofs.decimal.Goals as goal

pub returns-then-places-le15 : goal.returns-then-places-le15
unfolding decimal_of
returns-then-places-le15 c =
    simp (le-leb _ _ c.if-places-le15.true) (c.quotient.ensures ∙ ap (λ (d : ℕ). round binary64 false c.args.n d) c.power_of_ten-d.ensures.value)

pub returns : goal.returns
unfolding decimal_of of_bits div
returns c = simp (lt-leb _ _ c.if-places-le15.false)
