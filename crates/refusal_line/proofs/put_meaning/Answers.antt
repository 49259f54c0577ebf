use mathlib.Core.Path.{sym, ap}
use Rattle.text.proofs.Pieces.{same}
use Rattle.refusal_line.specs.Judged.{meaning_text}
use Rattle.refusal_line.proofs.put_meaning.Goals as goal

pub returns-in-Ok : goal.returns-in-Ok
unfolding meaning_text
returns-in-Ok c = same (sym (ap meaning_text c.in-Ok.is)) c.put_bytes.ensures

pub returns-in-Err : goal.returns-in-Err
unfolding meaning_text
returns-in-Err c = same (sym (ap meaning_text c.in-Err.is)) c.put_refusal.ensures
