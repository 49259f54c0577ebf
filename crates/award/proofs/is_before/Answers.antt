use Rattle.award.proofs.Rules.{too_soon, gap}
use Rattle.award.proofs.is_before.Goals as goal

pub returns-then-start-end : goal.returns-then-start-end
returns-then-start-end c = too_soon _ _ _ c.if-start-end.true

pub returns : goal.returns
returns c = gap _ _ _ c.if-start-end.false
