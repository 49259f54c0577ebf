use Rattle.ephemeris.proofs.input.run.Goals as goal

pub returns-then-not-next-wants_line : goal.returns-then-not-next-wants_line
returns-then-not-next-wants_line c = λ h. c.next_line-next.ensures.marked (c.loop-before.invariant h)

pub loop-before-preserved : goal.loop-before-preserved
loop-before-preserved c = λ h. c.take_line-stage.ensures (c.next_line-next.ensures.marked (c.loop-before.invariant h))
