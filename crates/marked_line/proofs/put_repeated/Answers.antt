use Rattle.marked_line.proofs.Fronts.{again}
use Rattle.marked_line.proofs.put_repeated.Goals as goal

pub loop-preserved : goal.loop-preserved
loop-preserved c = again c.args.byte c.loop.counter c.loop.invariant c.put_byte-next.ensures
