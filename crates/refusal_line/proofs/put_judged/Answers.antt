use mathlib.Core.Path.{sym, ap, ◌∙◌}
use Rattle.text.proofs.Pieces.{both, same}
use Rattle.refusal_line.specs.Refusal.{refusal_text}
use Rattle.refusal_line.specs.Judged.{meaning_text, judged_text}
use Rattle.refusal_line.proofs.put_judged.Goals as goal

pub returns-in-Err : goal.returns-in-Err
unfolding judged_text
returns-in-Err c =
    same (ap judged_text (sym c.in-Err.is ∙ c.read_form.ensures)) c.put_refusal.ensures

pub returns : goal.returns
unfolding judged_text
returns c =
    same (ap judged_text (sym c.in-Ok.is ∙ c.read_form.ensures))
    (both c.put_bytes-p.ensures (same (ap meaning_text c.read_meaning.ensures) c.put_meaning.ensures))
