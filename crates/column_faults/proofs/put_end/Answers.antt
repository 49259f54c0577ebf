use borrow.Author.Tests.{eq-eqb, ne_eqb}
use Rattle.text.proofs.Pieces.{same}
use Rattle.column_faults.specs.Faults.{end_text}
use Rattle.column_faults.proofs.put_end.Goals as goal

pub returns-then-last-eq13 : goal.returns-then-last-eq13
unfolding end_text
returns-then-last-eq13 c = same (simp (eq-eqb _ _ c.if-last-eq13.true)) c.put_bytes.ensures

pub returns : goal.returns
unfolding end_text
returns c = same (simp (ne_eqb _ _ c.if-last-eq13.false)) c.put_bytes-2.ensures
