use Rattle.report.proofs.State.start.Goals as goal

pub returns : goal.returns
returns c = simp (c.nothing.ensures, c.start.ensures)
