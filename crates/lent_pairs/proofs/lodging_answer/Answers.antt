use mathlib.Core.Path.{sym, ap, ◌∙◌, subst}
use Rattle.std.specs.Prelude.{Err}
use Rattle.answers.specs.Refusals.{refusal_answer}
use Rattle.answers.proofs.Columns.{fits_bits}
use Rattle.lent_pairs.specs.Roster.{lodging_answer, UnreadFits}
use Rattle.lent_pairs.proofs.lodging_answer.Goals as goal

pub returns-in-Ok : goal.returns-in-Ok
unfolding lodging_answer
returns-in-Ok c = c.answer.ensures ∙ sym (ap lodging_answer c.in-Ok.is)

pub returns-in-Unread : goal.returns-in-Unread
unfolding lodging_answer
returns-in-Unread c =
    let e = c.in-Err.is ∙ ap Err c.in-Unread.is in
    c.refusal_answer.ensures ∙ ap refusal_answer (fits_bits _ (subst UnreadFits e c.requires)) ∙ sym (ap lodging_answer e)

pub returns-in-NoRoster : goal.returns-in-NoRoster
unfolding lodging_answer
returns-in-NoRoster c = c.answer-in-NoRoster.ensures ∙ sym (ap lodging_answer (c.in-Err.is ∙ ap Err c.in-NoRoster.is))

pub returns-in-Older : goal.returns-in-Older
unfolding lodging_answer
returns-in-Older c = c.answer-in-Older.ensures ∙ sym (ap lodging_answer (c.in-Err.is ∙ ap Err c.in-Older.is))

pub returns-in-Full : goal.returns-in-Full
unfolding lodging_answer
returns-in-Full c = c.answer-in-Full.ensures ∙ sym (ap lodging_answer (c.in-Err.is ∙ ap Err c.in-Full.is))
