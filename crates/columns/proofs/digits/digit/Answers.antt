use borrow.Author.Tests.{le-leb, lt-leb}
use native.Mathlib.Omega.{arith}
use Rattle.columns.specs.Sum.{digit_of}
use Rattle.columns.proofs.digits.digit.Goals as goal

pub returns-then-b-le57 : goal.returns-then-b-le57
unfolding digit_of
returns-then-b-le57 c = (simp (le-leb _ _ c.if-b-ge48.true, le-leb _ _ c.if-b-le57.true), omega arith)

pub returns-else-b-le57 : goal.returns-else-b-le57
unfolding digit_of
returns-else-b-le57 c = (simp (le-leb _ _ c.if-b-ge48.true, lt-leb _ _ c.if-b-le57.false), omega arith)

pub returns-else-b-ge48 : goal.returns-else-b-ge48
unfolding digit_of
returns-else-b-ge48 c = (simp (lt-leb _ _ c.if-b-ge48.false), omega arith)
