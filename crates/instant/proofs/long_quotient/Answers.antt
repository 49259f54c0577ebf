use mathlib.Core.Path.{◌∙◌}
use native.Mathlib.Omega.{arith}
use Rattle.instant.proofs.Long.{down_to, up_to, to_even}
use Rattle.instant.proofs.long_quotient.Goals as goal

pub returns-then-r-d : goal.returns-then-r-d
returns-then-r-d c =
    c.short_quotient.ensures ∙ down_to (omega arith) (omega arith) c.divide-x.ensures.divided (omega arith)

pub returns-then-r-d-2 : goal.returns-then-r-d-2
returns-then-r-d-2 c =
    c.short_quotient-then-r-d-2.ensures ∙ up_to (omega arith) (omega arith) c.divide-x.ensures.divided (omega arith)

pub returns : goal.returns
returns c =
    c.short_quotient-2.ensures ∙ to_even (omega arith) (omega arith) c.divide-x.ensures.divided (omega arith)
