use mathlib.Core.Path.{ap, sym}
use Rattle.text.proofs.Pieces.{same}
use Rattle.roster_words.specs.Answers.{number_text}
use Rattle.roster_words.proofs.put_number.Goals as goal

pub returns-in-Ok : goal.returns-in-Ok
returns-in-Ok c = same (sym (ap number_text c.in-Ok.is)) c.put_decimal.ensures

pub returns-in-Err : goal.returns-in-Err
returns-in-Err c = same (sym (ap number_text c.in-Err.is)) c.put_bytes.ensures
