use Rattle.passes.specs.Samples.{higher}
use Rattle.passes.proofs.higher.Goals as goal

pub returns-then-sine-b : goal.returns-then-sine-b
unfolding higher
returns-then-sine-b c = simp c.if-sine-b.true

pub returns : goal.returns
unfolding higher
returns c = simp c.if-sine-b.false
