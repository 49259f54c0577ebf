use Rattle.sightings.specs.Sightings.{seen_at}
use Rattle.passes.specs.Samples.{sampled, stops}
use Rattle.pass_edges.proofs.Loop.{Left}
use Rattle.passes.proofs.scan_samples.Given as goal

abbrev pub invariant-loop-k : goal.invariant-loop-k
invariant-loop-k l = Left stops (sampled (seen_at l.site) l.least l.wanted l.step) l.samples l.initial.x l.k l.x
