use borrow.Author.Tests.{lt-ltb, le-ltb}
use Rattle.report.specs.State.{with_pair}
use Rattle.report.proofs.with_pair.Goals as goal

pub returns-then-n-lt4096 : goal.returns-then-n-lt4096
unfolding with_pair
returns-then-n-lt4096 c = simp (c.tallied.ensures, lt-ltb _ _ c.if-n-lt4096.true)

pub returns : goal.returns
unfolding with_pair
returns c = simp (le-ltb _ _ c.if-n-lt4096.false)
