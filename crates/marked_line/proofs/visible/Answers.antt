use borrow.Author.Tests.{lt-ltb, le-ltb}
use Rattle.marked_line.specs.Marked.{visible}
use Rattle.marked_line.proofs.visible.Goals as goal

pub returns-then-b-lt32 : goal.returns-then-b-lt32
unfolding visible
returns-then-b-lt32 c = simp (lt-ltb _ _ c.if-b-lt32.true)

pub returns-then-b-gt126 : goal.returns-then-b-gt126
unfolding visible
returns-then-b-gt126 c = simp (le-ltb _ _ c.if-b-lt32.false, lt-ltb _ _ c.if-b-gt126.true)

pub returns : goal.returns
unfolding visible
returns c = simp (le-ltb _ _ c.if-b-lt32.false, le-ltb _ _ c.if-b-gt126.false)
