use Rattle.pass_edges.proofs.above.Goals as goal

pub returns : goal.returns
returns c = simp c.seen_at-y.ensures
