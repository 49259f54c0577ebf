use Rattle.number_list.specs.Numbers.{stored}
use lib.Seq.{set_out}
use borrow.Author.Tests.{eq-eqb, ne_eqb}
use mathlib.Core.Path.{sym}
use Rattle.number_list.proofs.store.Goals as goal

pub returns-then-n-row : goal.returns-then-n-row
unfolding stored
returns-then-n-row c = simp (eq-eqb _ _ c.if-b-eq32.true, c.if-t.true)

pub returns-else-n-row : goal.returns-else-n-row
unfolding stored
returns-else-n-row c = simp (eq-eqb _ _ c.if-b-eq32.true, c.if-t.true) (sym (set_out c.args.row.now _ _ c.if-n-row.false))

pub returns-else-t : goal.returns-else-t
unfolding stored
returns-else-t c = simp (eq-eqb _ _ c.if-b-eq32.true, c.if-t.false)

pub returns-else-b-eq32 : goal.returns-else-b-eq32
unfolding stored
returns-else-b-eq32 c = simp (ne_eqb _ _ c.if-b-eq32.false)
