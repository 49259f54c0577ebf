use Rattle.tle.specs.Legal.{legal}
use Rattle.tle.proofs.limits.legal.Goals as goal

pub returns : goal.returns
unfolding legal
returns c = rw (c.in_ranges.ensures, c.in_layout.ensures)
