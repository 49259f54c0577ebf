use Rattle.passes.specs.Passes.{pass_of}
use Rattle.passes.proofs.pass_of.Goals as goal

pub returns : goal.returns
unfolding pass_of
returns c =
    simp (
      c.left_of-left.ensures,
      c.summit-highest.ensures,
      c.edge-set.ensures,
      c.after.ensures,
      c.edge-rise.ensures,
    )
