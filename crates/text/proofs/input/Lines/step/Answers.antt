use Rattle.text.specs.Input.{stepped}
use borrow.Author.Tests.{eq-eqb, ne_eqb}
use Rattle.text.proofs.input.Lines.step.Goals as goal

pub returns-then-byte-eq10 : goal.returns-then-byte-eq10
unfolding stepped
returns-then-byte-eq10 c = simp (eq-eqb _ _ c.if-ended-eq0.true, eq-eqb _ _ c.if-byte-eq10.true)

pub returns-then-ended-eq0 : goal.returns-then-ended-eq0
unfolding stepped
returns-then-ended-eq0 c =
    let i = c in simp (eq-eqb _ _ i.if-ended-eq0.true, ne_eqb _ _ i.if-byte-eq10.false, c.push-first.ensures)

pub returns-then-byte-eq10-2 : goal.returns-then-byte-eq10-2
unfolding stepped
returns-then-byte-eq10-2 c =
    let i = c in simp (ne_eqb _ _ i.if-ended-eq0.false, eq-eqb _ _ i.if-ended-eq1.true, eq-eqb _ _ c.if-byte-eq10-2.true)

pub returns-then-ended-eq1 : goal.returns-then-ended-eq1
unfolding stepped
returns-then-ended-eq1 c =
    let i = c in simp (ne_eqb _ _ i.if-ended-eq0.false, eq-eqb _ _ i.if-ended-eq1.true, ne_eqb _ _ i.if-byte-eq10-2.false, c.push-second.ensures)

pub returns : goal.returns
unfolding stepped
returns c = simp (ne_eqb _ _ c.if-ended-eq0.false, ne_eqb _ _ c.if-ended-eq1.false)
