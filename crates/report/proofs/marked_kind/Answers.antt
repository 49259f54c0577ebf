use borrow.Author.Tests.{lt-ltb, le-ltb}
use Rattle.report.specs.State.{marked_kind}
use Rattle.report.proofs.marked_kind.Goals as goal

pub returns-then-answer-gt0 : goal.returns-then-answer-gt0
unfolding marked_kind
returns-then-answer-gt0 c = simp (lt-ltb _ _ c.if-answer-gt0.true)

pub returns-then-mark-gt0 : goal.returns-then-mark-gt0
unfolding marked_kind
returns-then-mark-gt0 c = simp (le-ltb _ _ c.if-answer-gt0.false, lt-ltb _ _ c.if-mark-gt0.true)

pub returns : goal.returns
unfolding marked_kind
returns c = simp (le-ltb _ _ c.if-answer-gt0.false, le-ltb _ _ c.if-mark-gt0.false)
