use native.Mathlib.Omega.{arith}
use Rattle.script_steps.proofs.Calls.{call_asked, call_none}
use Rattle.script_steps.proofs.look.Goals as goal

pub returns-then-n-ne1 : goal.returns-then-n-ne1
returns-then-n-ne1 c = call_none _ c.if-n-ne1.true _ _ _ _ _ _

pub returns : goal.returns
returns c =
    let p = c.requires in
    call_asked _ (omega arith) _ _ _ _ c.call_at-q.ensures _ _ _ _ _ _ p.seen_in_bounds p.seen_in_bounds_2 c.windows-a.ensures

pub call_at-q-requires : goal.call_at-q-requires
call_at-q-requires c = record { j_in_bounds = omega arith; j_in_bounds_2 = omega arith }
