use native.Mathlib.Omega.{arith}
use Rattle.passes.proofs.Steps.{sampled_out, sampled_hit, sampled_on}
use Rattle.passes.proofs.sampled.Goals as goal

pub returns-then-t-ge3155760000000000 : goal.returns-then-t-ge3155760000000000
returns-then-t-ge3155760000000000 c = sampled_out _ _ _ _ _ _ c.if-t-ge3155760000000000.true c.stopped.ensures

pub returns-then-hits : goal.returns-then-hits
returns-then-hits c =
    sampled_hit _ _ _ _ _ _ _ _ c.if-t-ge3155760000000000.false c.seen_at-y.ensures c.hits.ensures c.if-hits.true c.stopped-then-hits.ensures

pub returns : goal.returns
returns c =
    sampled_on _ _ _ _ _ _ _ _ c.if-t-ge3155760000000000.false c.seen_at-y.ensures c.hits.ensures c.if-hits.false c.passed.ensures

pub passed-requires : goal.passed-requires
passed-requires c = (omega arith, omega arith)
