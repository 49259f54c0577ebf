use Rattle.record_numbers.specs.Numbers.{designator_from}
use Rattle.record_numbers.proofs.designator_from.Goals as goal

pub returns-then-launch-a : goal.returns-then-launch-a
unfolding designator_from
returns-then-launch-a c = rw c.if-launch-a.true

pub returns : goal.returns
unfolding designator_from
returns c = rw c.if-launch-a.false
