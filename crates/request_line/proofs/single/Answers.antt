use Rattle.request_line.specs.Request.{single_of}
use borrow.Author.Tests.{eq-eqb, ne_eqb, le-leb, lt-leb}
use Rattle.request_line.proofs.single.Goals as goal

pub returns-then-n-room : goal.returns-then-n-room
unfolding single_of
returns-then-n-room c = simp (eq-eqb _ _ c.if-n-eq1.true, le-leb _ _ c.if-n-room.true)

pub returns-then-n-eq1 : goal.returns-then-n-eq1
unfolding single_of
returns-then-n-eq1 c = simp (eq-eqb _ _ c.if-n-eq1.true, lt-leb _ _ c.if-n-room.false)

pub returns : goal.returns
unfolding single_of
returns c = simp (ne_eqb _ _ c.if-n-eq1.false)
