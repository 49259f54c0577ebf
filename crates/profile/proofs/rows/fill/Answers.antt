use borrow.Author.Rules.{rules}
use native.Mathlib.Omega.{arith}
use mir.Syntax.{w64}
use mir.ValLaws.{to_z-of_z}
use Rattle.profile.proofs.Filling.{filling_none, filling_put, filling_done}
use Rattle.profile.proofs.rows.fill.Goals as goal

pub loop-i-preserved : goal.loop-i-preserved
loop-i-preserved c =
    let w = c.put_row.ensures in
    filling_put _ _ _ _ _ _ _ _ _ _ _ _ _ _ _ _ _ c.loop-i.invariant (omega arith) c.row_at.ensures c.is_taken-any.ensures (to_z-of_z w64 _ (record { sfits = search rules }))
    (w.refusals_after, (w.states_after, w.rounds_after))

pub returns : goal.returns
returns c = filling_done c.loop-i.invariant (omega arith)

pub loop-i-init : goal.loop-i-init
loop-i-init c = filling_none _ _ _ _ _ (omega arith) (omega arith) (omega arith) (omega arith)
