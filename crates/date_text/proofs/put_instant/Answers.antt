use mathlib.Core.Path.{ap}
use Rattle.text.proofs.Pieces.{same}
use Rattle.date_text.specs.Date.{date_text, instant_text}
use Rattle.date_text.proofs.put_instant.Goals as goal

pub returns-in-Some : goal.returns-in-Some
unfolding instant_text
returns-in-Some c = same (ap date_text c.in-Some.ensures) c.put_date.ensures

pub returns-in-None : goal.returns-in-None
unfolding instant_text date_text
returns-in-None c = same (ap date_text c.in-None.ensures) c.put_bytes.ensures
