use mathlib.Core.Path.{ap, sym, ◌∙◌}
use Rattle.std.specs.Prelude.{Err}
use Rattle.text.proofs.Pieces.{same}
use Rattle.roster_words.specs.Answers.{withdrawal_text}
use Rattle.roster_words.proofs.put_withdrawal.Goals as goal

pub returns-in-Ok : goal.returns-in-Ok
unfolding withdrawal_text
returns-in-Ok c = same (sym (ap (λ w. withdrawal_text w c.args.number) c.in-Ok.is)) c.put_named.ensures

pub returns-in-NoRoster : goal.returns-in-NoRoster
unfolding withdrawal_text
returns-in-NoRoster c = same (sym (ap (λ w. withdrawal_text w c.args.number) (c.in-Err.is ∙ ap Err c.in-NoRoster.is))) c.put_bytes.ensures

pub returns-in-Absent : goal.returns-in-Absent
unfolding withdrawal_text
returns-in-Absent c = same (sym (ap (λ w. withdrawal_text w c.args.number) (c.in-Err.is ∙ ap Err c.in-Absent.is))) c.put_named-in-Absent.ensures
