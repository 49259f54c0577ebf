use Rattle.requests.proofs.request.Goals as goal

pub returns : goal.returns
returns c = simp c.ask-a.ensures
