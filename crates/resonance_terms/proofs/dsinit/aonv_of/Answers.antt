use Rattle.resonance_terms.specs.Dsinit.{aonv_of}
use Rattle.resonance_terms.proofs.dsinit.aonv_of.Goals as goal

pub returns : goal.returns
unfolding aonv_of
returns c = simp (c.two_thirds.ensures, c.xke.ensures)
