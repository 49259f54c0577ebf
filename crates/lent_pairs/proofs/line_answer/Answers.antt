use borrow.Author.Tests.{eq-eqb, ne_eqb}
use Rattle.lent_pairs.specs.Records.{line_answer}
use Rattle.lent_pairs.proofs.line_answer.Goals as goal

pub returns-then-refusal-eq0 : goal.returns-then-refusal-eq0
unfolding line_answer
returns-then-refusal-eq0 c = rw (eq-eqb _ _ c.if-refusal-eq0.true) c.answer.ensures

pub returns : goal.returns
unfolding line_answer
returns c = rw (ne_eqb _ _ c.if-refusal-eq0.false) c.answer-2.ensures
