use Rattle.periodics.specs.Dpper.{dpper_of}
use Rattle.periodics.proofs.dpper.pairs.dpper_two.Goals as goal

pub returns : goal.returns
unfolding dpper_of
returns c = (
  simp (c.applied_two.ensures.0, c.sin_cos-ip.ensures.sin_value.0, c.sin_cos-ip.ensures.sin_value.1, c.inclined-y.ensures, c.changes_at-k.ensures),
  simp (c.applied_two.ensures.1, c.sin_cos-ip2.ensures.sin_value.0, c.sin_cos-ip2.ensures.sin_value.1, c.inclined-y2.ensures, c.changes_at-k2.ensures),
)
