use Rattle.pass_edges.specs.Search.{thirds, narrow, sine_at}
use Rattle.pass_edges.proofs.Loop.{Left}
use Rattle.pass_edges.proofs.climbed.Given as goal

abbrev pub invariant-loop : goal.invariant-loop
invariant-loop l = Left narrow (thirds (sine_at l.site l.satellite)) 64 (record { lo = l.lo; hi = l.hi }) l.counter l.b
