use mathlib.Core.Path.{sym, ap}
use Rattle.text.proofs.Pieces.{same}
use Rattle.ephemeris_text.specs.Rows.{when_text}
use Rattle.ephemeris_text.proofs.put_when.Goals as goal

pub returns-in-Ok : goal.returns-in-Ok
unfolding when_text
returns-in-Ok c = let p = c in same (sym (ap when_text c.in-Ok.is)) p.put_instant.ensures
