use Rattle.passes.specs.Samples.{passed}
use Rattle.passes.proofs.passed.Goals as goal

pub returns : goal.returns
unfolding passed
returns c = simp c.higher-best.ensures
