use Rattle.explain.specs.Told.{counted_with}
use Rattle.explain.proofs.input.counted.Goals as goal

pub returns-then-well : goal.returns-then-well
unfolding counted_with
returns-then-well c = simp (c.more.ensures, c.more-pairs.ensures, c.if-well.true)

pub returns : goal.returns
unfolding counted_with
returns c = simp (c.more-pairs.ensures, c.if-well.false)
