use borrow.Author.Tests.{lt-ltb, le-ltb}
use Rattle.pair_lines.specs.Sort.{begins}
use Rattle.pair_lines.proofs.begins.Goals as goal

pub returns-then-line-lt2 : goal.returns-then-line-lt2
unfolding begins
returns-then-line-lt2 c = simp (lt-ltb _ _ c.if-line-lt2.true)

pub returns : goal.returns
unfolding begins
returns c = simp (le-ltb _ _ c.if-line-lt2.false)
