use Rattle.std.proofs.Common.{sym, ◌∙◌, arith}
use Rattle.roster.proofs.Tests.{zero_more, zero_end}
use Rattle.roster.proofs.places.zeros.Goals as goal

pub loop-b-preserved : goal.loop-b-preserved
loop-b-preserved c =
    c.loop-b.invariant ∙ zero_more c.loop-b.clear c.args.s.now c.loop-b.b-index (omega arith)

pub returns : goal.returns
returns c = sym (c.loop-b.invariant ∙ zero_end c.loop-b.clear c.args.s.now c.loop-b.b-index c.loop-b-test.false)
