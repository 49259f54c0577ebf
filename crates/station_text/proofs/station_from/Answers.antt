use Rattle.station_text.specs.Words.{station_from}
use Rattle.station_text.proofs.station_from.Goals as goal

pub returns-then-x-y : goal.returns-then-x-y
unfolding station_from
returns-then-x-y c = simp c.if-x-y.true

pub returns : goal.returns
unfolding station_from
returns c = simp c.if-x-y.false
