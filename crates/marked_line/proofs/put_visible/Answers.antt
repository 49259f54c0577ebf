use Rattle.std.proofs.Common.{arith}
use Rattle.marked_line.proofs.Fronts.{one_more}
use Rattle.marked_line.proofs.put_visible.Goals as goal

pub loop-b-preserved : goal.loop-b-preserved
loop-b-preserved c =
    one_more c.args.line.now c.loop-b.b-index (omega arith) c.visible.ensures c.loop-b.invariant c.put_byte-next.ensures
