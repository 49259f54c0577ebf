use Rattle.windows.proofs.Scanning.{not_seen, is_seen_lem}
use Rattle.windows.proofs.sees.Goals as goal

pub returns-then-refusal-ne0 : goal.returns-then-refusal-ne0
returns-then-refusal-ne0 c = not_seen _ _ _ _ _ _ c.if-refusal-ne0.true

pub returns : goal.returns
returns c = is_seen_lem _ _ _ _ _ _ _ c.if-refusal-ne0.false c.seen.ensures
