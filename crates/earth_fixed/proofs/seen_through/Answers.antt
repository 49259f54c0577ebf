use Rattle.earth_fixed.specs.Frame.{seen_through}
use Rattle.earth_fixed.proofs.seen_through.Goals as goal

pub returns : goal.returns
unfolding seen_through
returns c = simp (c.visible.ensures, c.turned.ensures, c.rotation.ensures)
