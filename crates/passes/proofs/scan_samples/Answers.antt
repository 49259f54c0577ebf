use Rattle.pass_edges.proofs.Loop.{begun, again}
use Rattle.passes.proofs.Scans.{scan_early, scan_late}
use Rattle.passes.proofs.scan_samples.Goals as goal

pub loop-k-init : goal.loop-k-init
loop-k-init c = begun _ _ _ _

pub returns-then-x : goal.returns-then-x
returns-then-x c =
    let r = scan_early _ _ _ _ _ _ _ _ c.begin-x.ensures _ _ c.loop-k.invariant c.loop-k-test.true _ c.sampled-x.ensures c.if-x.true in
    record { left_value = r.0; scan_value = r.1 }

pub loop-k-preserved : goal.loop-k-preserved
loop-k-preserved c =
    again _ _ _ _ _ _ c.loop-k.invariant c.loop-k-test.true _ c.sampled-x.ensures c.if-x.false

pub returns : goal.returns
returns c =
    let r = scan_late _ _ _ _ _ _ _ _ c.begin-x.ensures _ _ c.loop-k.invariant c.loop-k-test.false in
    record { left_value = r.0; scan_value = r.1 }
