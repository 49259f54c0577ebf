use Rattle.instant.specs.Greenwich.{epoch_days_at}
use Rattle.opening.proofs.opening.days_of.Goals as goal

pub returns : goal.returns
unfolding epoch_days_at
returns c = simp (c.unwrap_or.ensures, c.epoch_days.ensures, c.requires)
