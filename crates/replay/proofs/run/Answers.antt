use Rattle.replay.proofs.run.Goals as goal

pub returns-then-not-next-wants_line : goal.returns-then-not-next-wants_line
returns-then-not-next-wants_line c = λ h. c.next_line-next.ensures.marked (c.loop.invariant h)

pub loop-preserved : goal.loop-preserved
loop-preserved c = λ h. c.take_line-stage.ensures (c.next_line-next.ensures.marked (c.loop.invariant h))

pub loop-init : goal.loop-init
loop-init c h = h

pub returns : goal.returns
returns c = c.loop.invariant
