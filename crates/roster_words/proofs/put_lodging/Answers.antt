use mathlib.Core.Path.{ap, sym, ◌∙◌}
use Rattle.std.specs.Prelude.{Err}
use Rattle.text.proofs.Pieces.{same}
use Rattle.roster_words.specs.Answers.{lodging_text}
use Rattle.roster_words.proofs.put_lodging.Goals as goal

pub returns-in-Ok : goal.returns-in-Ok
unfolding lodging_text
returns-in-Ok c =
    let a = c.args in
    same (sym (ap (λ w. lodging_text w a.line1.now a.line2.now) c.in-Ok.is)) c.put_about.ensures

pub returns-in-Unread : goal.returns-in-Unread
unfolding lodging_text
returns-in-Unread c =
    let a = c.args in
    same (sym (ap (λ w. lodging_text w a.line1.now a.line2.now) (c.in-Err.is ∙ ap Err c.in-Unread.is))) c.put_fault.ensures

pub returns-in-NoRoster : goal.returns-in-NoRoster
unfolding lodging_text
returns-in-NoRoster c =
    let a = c.args in
    same (sym (ap (λ w. lodging_text w a.line1.now a.line2.now) (c.in-Err.is ∙ ap Err c.in-NoRoster.is))) c.put_bytes.ensures

pub returns-in-Older : goal.returns-in-Older
unfolding lodging_text
returns-in-Older c =
    let a = c.args in
    same (sym (ap (λ w. lodging_text w a.line1.now a.line2.now) (c.in-Err.is ∙ ap Err c.in-Older.is))) c.put_about-in-Older.ensures

pub returns-in-Full : goal.returns-in-Full
unfolding lodging_text
returns-in-Full c =
    let a = c.args in
    same (sym (ap (λ w. lodging_text w a.line1.now a.line2.now) (c.in-Err.is ∙ ap Err c.in-Full.is))) c.put_about-in-Full.ensures
