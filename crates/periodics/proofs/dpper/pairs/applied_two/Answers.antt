use mathlib.Core.Path.{◌∙◌}
use lib.Ieee.{round, units, odd, size, span, climb, of_bits, neg, le}
use lib.Count.{count_trailing_zeros}
use Rattle.elementary.specs.Notation.{dec}
use Rattle.elementary.proofs.Branch.{no, neither}
use Rattle.periodics.specs.Dpper.{direct_of, lyddane_of, applied_of}
use Rattle.periodics.proofs.dpper.pairs.applied_two.Goals as goal

pub returns : goal.returns
unfolding applied_of round units odd size span climb count_trailing_zeros of_bits neg
returns c =
    let test = c in
    let args = test.args in
    let a = args.a in
    let b = args.b in
    let low = neither (le (dec 2 1) a.x.inclp) (le (dec 2 1) b.x.inclp) test.if-x-x2.false in (
      c.lyddane_two.ensures.0 ∙ no (le (dec 2 1) a.x.inclp) (direct_of a.k a.x a.sinip a.cosip) (lyddane_of a.k a.x a.sinip a.cosip) low.0,
      c.lyddane_two.ensures.1 ∙ no (le (dec 2 1) b.x.inclp) (direct_of b.k b.x b.sinip b.cosip) (lyddane_of b.k b.x b.sinip b.cosip) low.1,
    )

pub returns-then-x-x2 : goal.returns-then-x-x2
returns-then-x-x2 c = (c.applied-first.ensures, c.applied-second.ensures)
