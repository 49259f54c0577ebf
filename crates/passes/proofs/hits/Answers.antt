use Rattle.passes.specs.Samples.{hits}
use Rattle.passes.proofs.hits.Goals as goal

pub returns-then-wanted : goal.returns-then-wanted
unfolding hits
returns-then-wanted c = simp c.if-wanted.true

pub returns : goal.returns
unfolding hits
returns c = simp c.if-wanted.false
