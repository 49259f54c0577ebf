use Rattle.award.specs.Plan.{offer_at}
use borrow.Author.Rules.{rules}
use Rattle.award.proofs.offer_at.Goals as goal

pub returns : goal.returns
unfolding offer_at
returns c = search rules
