use Rattle.pass_edges.specs.Search.{halved, neighbours, above_at}
use Rattle.pass_edges.proofs.Loop.{Left}
use Rattle.pass_edges.proofs.edge.Given as goal

abbrev pub invariant-loop : goal.invariant-loop
invariant-loop l = Left neighbours (halved (above_at l.site l.least l.satellite)) 37 (record { below = l.below; above = l.above }) l.counter l.e
