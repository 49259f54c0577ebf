use borrow.Author.Tests.{eq-eqb, ne_eqb}
use Rattle.request_line.specs.Times.{stepped}
use Rattle.request_line.proofs.step.Goals as goal

pub returns-then-b-eq32 : goal.returns-then-b-eq32
unfolding stepped
returns-then-b-eq32 c = let i = c in simp (i.if-t.true, eq-eqb _ _ i.if-b-eq32.true) c.after_blank.ensures

pub returns-then-b-eq45 : goal.returns-then-b-eq45
unfolding stepped
returns-then-b-eq45 c =
    let i = c in simp (i.if-t.true, ne_eqb _ _ i.if-b-eq32.false, eq-eqb _ _ i.if-b-eq45.true) c.after_minus.ensures

pub returns-then-t : goal.returns-then-t
unfolding stepped
returns-then-t c =
    let i = c in simp (i.if-t.true, ne_eqb _ _ i.if-b-eq32.false, ne_eqb _ _ i.if-b-eq45.false) c.after_other.ensures

pub returns : goal.returns
unfolding stepped
returns c = simp c.if-t.false
