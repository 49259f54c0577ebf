use Rattle.report.proofs.Feeding.{no_more, more}
use Rattle.report.specs.State.{begun}
use Rattle.monday_report.proofs.read_all.Goals as goal

pub loop-init : goal.loop-init
loop-init c = rw c.start-state.ensures (no_more begun)

pub loop-preserved : goal.loop-preserved
loop-preserved c = more c.loop.invariant (record { piece = _; is = c.feed-state.ensures })
