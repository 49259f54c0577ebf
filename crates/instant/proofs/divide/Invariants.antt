use Prim.Native.Nat.{◌-◌}
use Rattle.instant.specs.Division.{Divided}
use Rattle.instant.proofs.divide.Given as goal

abbrev pub invariant-loop-quotient : goal.invariant-loop-quotient
invariant-loop-quotient l = Divided l.n l.d l.quotient l.rest l.scale l.bits

abbrev pub decreases-loop-quotient : goal.decreases-loop-quotient
decreases-loop-quotient l = 4503599627370496 - l.quotient
