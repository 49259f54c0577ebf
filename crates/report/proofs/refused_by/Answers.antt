use Rattle.report.specs.State.{refused_by}
use Rattle.report.proofs.refused_by.Goals as goal

pub returns : goal.returns
unfolding refused_by
returns c =
    simp (c.plus-6.ensures, c.plus-5.ensures, c.plus-4.ensures, c.plus-3.ensures, c.plus-2.ensures, c.plus.ensures)
