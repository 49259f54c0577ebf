use Rattle.tle.specs.Read.{degrees_at}
use Rattle.tle.proofs.reader.degrees_at.Goals as goal

pub returns : goal.returns
unfolding degrees_at
returns c = rw (c.field_at-2.ensures.0, c.field_at.ensures.0)
