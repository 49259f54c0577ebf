use borrow.Author.Tests.{lt-ltb, le-ltb}
use Rattle.roster.proofs.scan.below_after.Goals as goal

pub returns-then-number-wanted : goal.returns-then-number-wanted
returns-then-number-wanted c = rw (lt-ltb _ _ c.if-number-wanted.true)

pub returns : goal.returns
returns c = rw (le-ltb _ _ c.if-number-wanted.false)
