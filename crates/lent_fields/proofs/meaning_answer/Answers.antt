use mathlib.Core.Path.{sym, ap, ◌∙◌}
use Rattle.lent_fields.specs.Fields.{meaning_answer}
use Rattle.lent_fields.proofs.Fits.{whole}
use Rattle.lent_fields.proofs.meaning_answer.Goals as goal

pub returns-in-Some : goal.returns-in-Some
returns-in-Some c =
    let e = sym c.judge_numbers-judged.ensures ∙ c.in-Some.is in
    c.reading_answer.ensures ∙ whole _ _ e ∙ sym (ap meaning_answer e)

pub returns-in-None : goal.returns-in-None
unfolding meaning_answer
returns-in-None c = c.answer.ensures ∙ sym (ap meaning_answer (sym c.judge_numbers-judged.ensures ∙ c.in-None.is))
