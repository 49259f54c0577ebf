use mathlib.Core.Path.{sym, ap, ◌∙◌}
use native.Mathlib.Omega.{arith}
use Rattle.lent_pairs.specs.Pairs.{printed_answer}
use Rattle.lent_pairs.proofs.Printed.{written_fits}
use Rattle.lent_pairs.proofs.print_answer.Goals as goal

pub overflow_cast-n : goal.overflow_cast-n
overflow_cast-n c =
    let h = written_fits _ _ _ _ (sym c.print_pair.ensures.answered ∙ c.in-Some.is) in omega (arith, h)

pub returns-in-Some : goal.returns-in-Some
unfolding printed_answer
returns-in-Some c =
    let p = c.print_pair.ensures in
    record { value = c.answer.ensures ∙ sym (ap printed_answer (sym p.answered ∙ c.in-Some.is)); out_after = p.stored }

pub returns-in-None : goal.returns-in-None
unfolding printed_answer
returns-in-None c =
    let p = c.print_pair.ensures in
    record { value = c.answer-in-None.ensures ∙ sym (ap printed_answer (sym p.answered ∙ c.in-None.is)); out_after = p.stored }
