use Rattle.std.proofs.Common.{set, ap, ◌∙◌, arith}
use Rattle.roster_calls.proofs.Shifts.{closing, fill_more}
use Rattle.roster_calls.proofs.gaps.close_gap.Goals as goal

pub loop-x-preserved : goal.loop-x-preserved
loop-x-preserved g c =
    ap (λ t. set t c.loop-x.x-index c.args.empty) c.loop-x.invariant ∙ fill_more c.loop-x.x-index c.args.empty _ c.loop-x-test.true

pub returns : goal.returns
returns g c =
    closing c.args.s.now c.args.at c.args.size c.requires c.copy_within.new.self c.args.empty c.copy_within.ensures.after c.copy_within.ensures.len
    c.loop-x.x-items c.loop-x.x-index c.loop-x.invariant c.loop-x-test.false (omega arith)
