use Rattle.roster.proofs.Tests.{zero_first}
use Rattle.roster.proofs.places.all_zero.Goals as goal

pub returns-then-s-ne0 : goal.returns-then-s-ne0
returns-then-s-ne0 c = zero_first c.args.s.now c.if-s-gt0.true c.if-s-ne0.true
