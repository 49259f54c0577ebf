use native.Mathlib.Omega.{arith}
use Rattle.pass_edges.proofs.Steps.{thirds_yes, thirds_no}
use Rattle.pass_edges.proofs.thirds.Goals as goal

pub returns-then-second-first : goal.returns-then-second-first
returns-then-second-first c =
    thirds_yes _ _ _ _ _ c.width-w.ensures c.sine_at-first.ensures c.sine_at-second.ensures c.if-second-first.true

pub returns : goal.returns
returns c =
    thirds_no _ _ _ _ _ c.width-w.ensures c.sine_at-first.ensures c.sine_at-second.ensures c.if-second-first.false

pub overflow_add-p : goal.overflow_add-p
overflow_add-p c = record { fits = omega (arith, c.width-w.ensures) }

pub overflow_sub-q : goal.overflow_sub-q
overflow_sub-q c = omega (arith, c.width-w.ensures)
