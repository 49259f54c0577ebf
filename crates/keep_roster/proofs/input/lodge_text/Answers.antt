use Rattle.keep_roster.proofs.input.lodge_text.Goals as goal

pub returns-then-is_over : goal.returns-then-is_over
returns-then-is_over c = λ e. c.print_total.ensures (c.next_step-next.ensures.reads.marked (c.loop.invariant e))

pub loop-preserved : goal.loop-preserved
loop-preserved c = λ e. c.take_step-t.ensures (c.next_step-next.ensures.reads.marked (c.loop.invariant e))
