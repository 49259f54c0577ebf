use Rattle.explain.proofs.input.explain_text.Goals as goal

pub returns-then-is_over : goal.returns-then-is_over
returns-then-is_over c = λ e. c.print_summary.ensures (c.next_step-next.ensures.reads.marked (c.loop.invariant e))

pub loop-preserved : goal.loop-preserved
loop-preserved c = λ e. c.take_step-t.ensures (c.next_step-next.ensures.reads.marked (c.loop.invariant e))
