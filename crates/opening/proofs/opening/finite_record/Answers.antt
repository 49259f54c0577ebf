use Rattle.opening.specs.Opening.{finite_record}
use Rattle.opening.proofs.opening.finite_record.Goals as goal

pub returns : goal.returns
unfolding finite_record
returns c = simp (c.is_finite.ensures, c.finite_method.ensures, c.finite_near.ensures)
