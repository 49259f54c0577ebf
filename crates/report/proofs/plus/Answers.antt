use borrow.Author.Tests.{lt-ltb, le-ltb}
use Rattle.report.specs.State.{plus}
use borrow.Author.Rules.{rules}
use Rattle.report.proofs.plus.Goals as goal

pub returns-then-n-lt18446744073709551615 : goal.returns-then-n-lt18446744073709551615
unfolding plus
returns-then-n-lt18446744073709551615 c = simp (c.if-property.true, lt-ltb _ _ c.if-n-lt18446744073709551615.true)

pub returns-then-property : goal.returns-then-property
unfolding plus
returns-then-property c = simp (c.if-property.true, le-ltb _ _ c.if-n-lt18446744073709551615.false)

pub returns : goal.returns
unfolding plus
returns c = search rules
