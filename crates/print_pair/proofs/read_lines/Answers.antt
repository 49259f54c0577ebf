use Rattle.text.proofs.Feeding.{no_more, more}
use Rattle.text.specs.Input.{started}
use Rattle.print_pair.proofs.read_lines.Goals as goal

pub loop-init : goal.loop-init
loop-init c = rw c.start-lines.ensures (no_more started)

pub loop-preserved : goal.loop-preserved
loop-preserved c = more c.loop.invariant (record { piece = _; is = c.feed-lines.ensures })

pub returns-then-n-eq0 : goal.returns-then-n-eq0
returns-then-n-eq0 c = more c.loop.invariant (record { piece = _; is = c.feed-lines.ensures })
