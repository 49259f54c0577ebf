use mathlib.Core.Path.{refl}
use Rattle.report.proofs.fresh.Goals as goal

pub returns : goal.returns
returns c = (simp c.start.ensures, refl)
