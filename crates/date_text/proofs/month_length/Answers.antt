use borrow.Author.Tests.{eq-eqb, ne_eqb}
use Rattle.instant.specs.Calendar.{days_in}
use Rattle.date_text.specs.Date.{month_length}
use Rattle.date_text.proofs.month_length.Goals as goal

pub returns-then-year-eq0 : goal.returns-then-year-eq0
unfolding month_length days_in
returns-then-year-eq0 c = simp (eq-eqb _ _ c.if-month-eq2.true, eq-eqb _ _ c.if-year-eq0.true)

pub returns-then-month-eq2 : goal.returns-then-month-eq2
unfolding month_length days_in
returns-then-month-eq2 c = simp (eq-eqb _ _ c.if-month-eq2.true, ne_eqb _ _ c.if-year-eq0.false)

pub returns-then-month : goal.returns-then-month
unfolding month_length
returns-then-month c = simp (ne_eqb _ _ c.if-month-eq2.false, c.if-month.true)

pub returns : goal.returns
unfolding month_length
returns c = simp (ne_eqb _ _ c.if-month-eq2.false, c.if-month.false)
