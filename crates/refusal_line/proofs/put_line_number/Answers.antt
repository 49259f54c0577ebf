use mathlib.Core.Path.{ap, sym}
use Rattle.text.proofs.Pieces.{same}
use Rattle.refusal_line.specs.Refusal.{line_text}
use Rattle.refusal_line.proofs.put_line_number.Goals as goal

pub returns-in-One : goal.returns-in-One
unfolding line_text
returns-in-One c = same (sym (ap line_text c.in-One.is)) c.put_bytes.ensures

pub returns-in-Two : goal.returns-in-Two
unfolding line_text
returns-in-Two c = same (sym (ap line_text c.in-Two.is)) c.put_bytes-in-Two.ensures
