use Rattle.text.specs.Output.{glyph}
use borrow.Author.Tests.{lt-ltb, le-ltb}
use Rattle.text.proofs.output.digit.Goals as goal

pub returns-then-d-lt10 : goal.returns-then-d-lt10
unfolding glyph
returns-then-d-lt10 c = simp (lt-ltb _ _ c.if-d-lt10.true)

pub returns : goal.returns
unfolding glyph
returns c = simp (le-ltb _ _ c.if-d-lt10.false)
