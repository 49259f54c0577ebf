use borrow.Author.Tests.{lt-ltb, le-ltb, eq-eqb, ne_eqb}
use Rattle.award_text.specs.Text.{verdict_of}
use Rattle.award_text.proofs.finish.Goals as goal

pub returns-then-row-lt1282 : goal.returns-then-row-lt1282
unfolding verdict_of
returns-then-row-lt1282 c = simp (lt-ltb _ _ c.if-row-lt1282.true)

pub returns-then-d : goal.returns-then-d
unfolding verdict_of
returns-then-d c = simp (le-ltb _ _ c.if-row-lt1282.false, c.if-d.true)

pub returns-then-d-ne3 : goal.returns-then-d-ne3
unfolding verdict_of
returns-then-d-ne3 c = simp (le-ltb _ _ c.if-row-lt1282.false, c.if-d.false, ne_eqb _ _ c.if-d-ne3.true)

pub returns-then-d-2 : goal.returns-then-d-2
unfolding verdict_of
returns-then-d-2 c = simp (le-ltb _ _ c.if-row-lt1282.false, c.if-d.false, eq-eqb _ _ c.if-d-ne3.false, c.if-d-2.true)

pub returns : goal.returns
unfolding verdict_of
returns c =
    simp (le-ltb _ _ c.if-row-lt1282.false, c.if-d.false, eq-eqb _ _ c.if-d-ne3.false, c.if-d-2.false) c.judge.ensures
