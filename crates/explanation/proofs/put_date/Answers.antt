use mathlib.Core.Path.{ap, sym}
use Rattle.text.proofs.Pieces.{same}
use Rattle.explanation.specs.Explained.{date_of_epoch}
use Rattle.explanation.proofs.put_date.Goals as goal

pub returns-in-Some : goal.returns-in-Some
returns-in-Some c = same (sym (ap date_of_epoch c.in-Some.is)) c.put_instant.ensures

pub returns-in-None : goal.returns-in-None
returns-in-None c = same (sym (ap date_of_epoch c.in-None.is)) c.put_bytes.ensures
