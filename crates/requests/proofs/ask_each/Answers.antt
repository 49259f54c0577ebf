use Rattle.requests.proofs.Answers.{one_then}
use Rattle.requests.proofs.ask_each.Goals as goal

pub returns : goal.returns
returns c = one_then _ _ _ _ _ _ c.ask-first.ensures c.ask-second.ensures
