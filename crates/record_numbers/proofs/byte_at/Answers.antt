use borrow.Author.Tests.{lt-ltb, le-ltb}
use Rattle.record_numbers.specs.Numbers.{byte}
use Rattle.record_numbers.proofs.byte_at.Goals as goal

pub returns-then-n-lt256 : goal.returns-then-n-lt256
unfolding byte
returns-then-n-lt256 c = rw (← c.whole_at-n.ensures, lt-ltb _ _ c.if-n-lt256.true)

pub returns : goal.returns
unfolding byte
returns c = rw (← c.whole_at-n.ensures, le-ltb _ _ c.if-n-lt256.false)
