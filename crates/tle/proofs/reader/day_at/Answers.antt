use Rattle.tle.specs.Read.{day_at}
use Rattle.tle.proofs.reader.day_at.Goals as goal

pub returns : goal.returns
unfolding day_at
returns c = rw (c.field_at-2.ensures.0, c.field_at.ensures.0)
