use borrow.Author.Tests.{eq-eqb, ne_eqb, lt-ltb, le-ltb}
use Rattle.number_list.specs.Numbers.{stepped}
use Rattle.number_list.proofs.step.Goals as goal

pub returns-then-b-eq32 : goal.returns-then-b-eq32
unfolding stepped
returns-then-b-eq32 c = simp (c.if-t.true, eq-eqb _ _ c.if-b-eq32.true) c.after_blank.ensures

pub returns-then-b-lt48 : goal.returns-then-b-lt48
unfolding stepped
returns-then-b-lt48 c = simp (c.if-t.true, ne_eqb _ _ c.if-b-eq32.false, lt-ltb _ _ c.if-b-lt48.true) c.fault.ensures

pub returns-then-b-gt57 : goal.returns-then-b-gt57
unfolding stepped
returns-then-b-gt57 c =
    simp (c.if-t.true, ne_eqb _ _ c.if-b-eq32.false, le-ltb _ _ c.if-b-lt48.false, lt-ltb _ _ c.if-b-gt57.true) c.fault-then-b-gt57.ensures

pub returns-then-t : goal.returns-then-t
unfolding stepped
returns-then-t c =
    simp (c.if-t.true, ne_eqb _ _ c.if-b-eq32.false, le-ltb _ _ c.if-b-lt48.false, le-ltb _ _ c.if-b-gt57.false) c.after_digit.ensures

pub returns : goal.returns
unfolding stepped
returns c = simp c.if-t.false
