use Rattle.resonance.specs.Dspace.{dspace_of}
use Rattle.resonance.proofs.dspace.dspace.Goals as goal

pub returns : goal.returns
unfolding dspace_of
returns c = simp (c.dspace_by.ensures, c.dots-d.ensures)
