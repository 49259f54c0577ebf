use Rattle.std.proofs.Common.{sym, ap, ◌∙◌, ◌+◌, drop, arith}
use Rattle.script_room.specs.Room.{roomy}
use Rattle.script_room.proofs.Room.{roomy_step, roomy_fails, roomy_all}
use Rattle.script_room.proofs.roomy.Goals as goal

pub returns-then-n-left : goal.returns-then-n-left
returns-then-n-left c =
    let l = c.loop-n in
    roomy_fails c.args.lengths.now l.n-index 0 c.args.room l.left (omega arith) l.invariant c.if-n-left.true

pub loop-n-preserved : goal.loop-n-preserved
loop-n-preserved c =
    let l = c.loop-n in
    roomy_step c.args.lengths.now l.n-index 0 c.args.room l.left c.taken.result (omega arith) l.invariant c.taken.ensures c.if-n-left.false
    ∙ sym (ap (roomy (drop (l.n-index + 1) c.args.lengths.now)) c.saturating_sub-left.ensures)

pub returns : goal.returns
returns c =
    let l = c.loop-n in
    roomy_all c.args.lengths.now l.n-index c.args.room l.left (omega arith) (omega arith) l.invariant
