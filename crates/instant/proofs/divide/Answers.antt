use native.Mathlib.Omega.{arith}
use Rattle.instant.proofs.Long.{begin, further}
use Rattle.instant.proofs.divide.Goals as goal

pub loop-quotient-preserved : goal.loop-quotient-preserved
loop-quotient-preserved c = further (omega arith) (omega arith) c.loop-quotient.invariant

pub loop-quotient-init : goal.loop-quotient-init
loop-quotient-init c = begin _ _ (omega arith) (omega arith) (omega arith) (omega arith)

pub overflow_add-quotient : goal.overflow_add-quotient
overflow_add-quotient c = omega (arith, loop-quotient-preserved c)

pub loop-quotient-smaller : goal.loop-quotient-smaller
loop-quotient-smaller c = omega (arith, loop-quotient-preserved c)

pub returns : goal.returns
returns c = record { divided = c.loop-quotient.invariant; le_quotient = omega arith }
