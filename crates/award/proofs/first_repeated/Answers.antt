use Rattle.std.proofs.Common.{rules}
use Rattle.award.specs.Plan.{repeated}
use Rattle.award.proofs.first_repeated.Goals as goal

pub returns : goal.returns
unfolding repeated
returns c = search rules
