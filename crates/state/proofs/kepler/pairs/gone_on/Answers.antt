use mathlib.Core.Path.{sym}
use Rattle.state.specs.Two.{gone_on}
use Rattle.state.proofs.kepler.pairs.gone_on.Goals as goal

pub returns-then-unsettled : goal.returns-then-unsettled
unfolding gone_on
returns-then-unsettled c = simp (c.corrected.ensures, sym c.unsettled.ensures, c.if-unsettled.true)

pub returns : goal.returns
unfolding gone_on
returns c = simp (sym c.unsettled.ensures, c.if-unsettled.false)
