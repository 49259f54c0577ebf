use native.Mathlib.Omega.{arith}
use lib.ListN.{length-set}
use Rattle.lent_requests.proofs.Rooms.{row_put_lem, row_kept}
use Rattle.lent_requests.proofs.put_row.Goals as goal

pub bounds-state-1 : goal.bounds-state-1
bounds-state-1 c = simp length-set (omega arith)

pub bounds-state-2 : goal.bounds-state-2
bounds-state-2 c = simp length-set (omega arith)

pub bounds-state-3 : goal.bounds-state-3
bounds-state-3 c = simp length-set (omega arith)

pub bounds-state-4 : goal.bounds-state-4
bounds-state-4 c = simp length-set (omega arith)

pub bounds-state-5 : goal.bounds-state-5
bounds-state-5 c = simp length-set (omega arith)

pub returns-then-row-eq0 : goal.returns-then-row-eq0
returns-then-row-eq0 c = row_put_lem _ _ c.requires c.if-row-eq0.true

pub returns-else-row-eq0 : goal.returns-else-row-eq0
returns-else-row-eq0 c = row_kept _ _ c.if-row-eq0.false
