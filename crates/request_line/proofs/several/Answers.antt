use Rattle.request_line.specs.Request.{several_of}
use borrow.Author.Tests.{le-leb, lt-leb}
use Rattle.request_line.proofs.several.Goals as goal

pub returns-then-n-room : goal.returns-then-n-room
unfolding several_of
returns-then-n-room c = simp (le-leb _ _ c.if-n-room.true)

pub returns : goal.returns
unfolding several_of
returns c = simp (lt-leb _ _ c.if-n-room.false)
