use Rattle.columns.proofs.Columns.{Kept}
use Rattle.columns.proofs.layout.keeps_layout.Given as goal

abbrev pub invariant-loop-i : goal.invariant-loop-i
invariant-loop-i l = Kept l.layout l.line l.keeps l.i
