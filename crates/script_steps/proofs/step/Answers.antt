use native.Mathlib.Omega.{arith}
use Rattle.script_steps.proofs.Rooms.{many_step, rows_added}
use Rattle.script_steps.proofs.step.Goals as goal

pub returns : goal.returns
returns c =
    let a = c.args in
    many_step a.s a.times.now a.rows a.refusals.now a.states.now a.rounds.now c.request_list-a.result c.request_list-a.new.refusals c.request_list-a.new.states c.request_list-a.new.rounds c.added-rows.result (omega arith) (omega arith) (omega arith)
    c.request_list-a.ensures (rows_added a.times.now _ _ _ _ _ c.added-rows.ensures)
