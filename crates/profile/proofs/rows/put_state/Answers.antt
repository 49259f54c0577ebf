use native.Mathlib.Omega.{arith}
use lib.ListN.{length-set}
use Rattle.requests.proofs.Filling.{puts}
use Rattle.profile.proofs.rows.put_state.Goals as goal

pub bounds-states-at-2 : goal.bounds-states-at-2
bounds-states-at-2 c = simp length-set (omega arith)

pub bounds-states-at-3 : goal.bounds-states-at-3
bounds-states-at-3 c = simp length-set (omega arith)

pub bounds-states-at-4 : goal.bounds-states-at-4
bounds-states-at-4 c = simp length-set (omega arith)

pub bounds-states-at-5 : goal.bounds-states-at-5
bounds-states-at-5 c = simp length-set (omega arith)

pub bounds-states-at-6 : goal.bounds-states-at-6
bounds-states-at-6 c = simp length-set (omega arith)

pub shape_of-states : goal.shape_of-states
shape_of-states c = simp length-set

pub returns : goal.returns
returns c = puts c.args.states.now c.args.at c.args.row
