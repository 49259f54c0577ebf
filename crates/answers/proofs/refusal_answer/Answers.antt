use mathlib.Core.Path.{sym, ap, ◌∙◌}
use Rattle.answers.specs.Answer.{answer}
use Rattle.answers.specs.Refusals.{refusal_answer, in_bits}
use Rattle.answers.proofs.refusal_answer.Goals as goal

pub returns-in-Length : goal.returns-in-Length
unfolding refusal_answer in_bits
returns-in-Length c =
    c.answer.ensures ∙ ap (λ z. answer 1 z 0 0) c.line_number.ensures ∙ sym (ap (λ z. refusal_answer (in_bits z)) c.in-Length.is)

pub returns-in-Start : goal.returns-in-Start
unfolding refusal_answer in_bits
returns-in-Start c =
    c.answer-in-Start.ensures ∙ ap (λ z. answer 2 z 0 0) c.line_number-in-Start.ensures ∙ sym (ap (λ z. refusal_answer (in_bits z)) c.in-Start.is)

pub returns-in-Column : goal.returns-in-Column
unfolding refusal_answer in_bits
returns-in-Column c =
    rw (c.answer-in-Column.ensures, c.line_number-in-Column.ensures) (sym (ap (λ z. refusal_answer (in_bits z)) c.in-Column.is))

pub returns-in-Checksum : goal.returns-in-Checksum
unfolding refusal_answer in_bits
returns-in-Checksum c =
    c.answer-in-Checksum.ensures ∙ ap (λ z. answer 4 z 0 0) c.line_number-in-Checksum.ensures ∙ sym (ap (λ z. refusal_answer (in_bits z)) c.in-Checksum.is)

pub returns-in-Numbers : goal.returns-in-Numbers
unfolding refusal_answer in_bits
returns-in-Numbers c = c.answer-in-Numbers.ensures ∙ sym (ap (λ z. refusal_answer (in_bits z)) c.in-Numbers.is)

pub returns-in-Range : goal.returns-in-Range
unfolding refusal_answer in_bits
returns-in-Range c =
    c.answer-in-Range.ensures ∙ ap (λ z. answer 6 0 z 0) c.field_number.ensures ∙ sym (ap (λ z. refusal_answer (in_bits z)) c.in-Range.is)

pub returns-in-NoForm : goal.returns-in-NoForm
unfolding refusal_answer in_bits
returns-in-NoForm c = c.answer-in-NoForm.ensures ∙ sym (ap (λ z. refusal_answer (in_bits z)) c.in-NoForm.is)
