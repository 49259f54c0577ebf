use Rattle.report.specs.State.{with_refusal}
use Rattle.report.proofs.with_refusal.Goals as goal

pub returns : goal.returns
unfolding with_refusal
returns c = simp c.refused_by.ensures
