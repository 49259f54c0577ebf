use mathlib.Core.Path.{sym, ap, ◌∙◌}
use Rattle.std.specs.Prelude.{Err}
use Rattle.award_text.specs.Print.{answer_text}
use Rattle.text.proofs.Pieces.{same}
use Rattle.award_text.proofs.put_answer.Goals as goal

pub returns-in-Ok : goal.returns-in-Ok
unfolding answer_text
returns-in-Ok c = same (sym (ap answer_text c.in-Ok.is)) c.put_bytes.ensures

pub returns-in-TooMany : goal.returns-in-TooMany
unfolding answer_text
returns-in-TooMany c = same (sym (ap answer_text (c.in-Err.is ∙ ap Err c.in-TooMany.is))) c.put_refusal.ensures

pub returns-in-Unsound : goal.returns-in-Unsound
unfolding answer_text
returns-in-Unsound c = same (sym (ap answer_text (c.in-Err.is ∙ ap Err c.in-Unsound.is))) c.put_refusal_at.ensures

pub returns-in-NoSuchOffer : goal.returns-in-NoSuchOffer
unfolding answer_text
returns-in-NoSuchOffer c = same (sym (ap answer_text (c.in-Err.is ∙ ap Err c.in-NoSuchOffer.is))) c.put_refusal_at-in-NoSuchOffer.ensures

pub returns-in-NamedTwice : goal.returns-in-NamedTwice
unfolding answer_text
returns-in-NamedTwice c = same (sym (ap answer_text (c.in-Err.is ∙ ap Err c.in-NamedTwice.is))) c.put_refusal_at-in-NamedTwice.ensures

pub returns-in-Clash : goal.returns-in-Clash
unfolding answer_text
returns-in-Clash c = same (sym (ap answer_text (c.in-Err.is ∙ ap Err c.in-Clash.is))) c.put_refusal_at-in-Clash.ensures

pub returns-in-WrongTotal : goal.returns-in-WrongTotal
unfolding answer_text
returns-in-WrongTotal c = same (sym (ap answer_text (c.in-Err.is ∙ ap Err c.in-WrongTotal.is))) c.put_refusal-in-WrongTotal.ensures
