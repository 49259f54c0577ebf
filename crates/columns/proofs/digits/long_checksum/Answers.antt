use native.Mathlib.Omega.{arith}
use Rattle.columns.proofs.Sums.{sum_more, sum_done}
use Rattle.columns.proofs.digits.long_checksum.Goals as goal

pub loop-b-preserved : goal.loop-b-preserved
loop-b-preserved c = omega (arith, sum_more c.args.s.now c.loop-b.b-index (omega arith), c.weight.ensures.0)

pub returns : goal.returns
returns c = omega (arith, sum_done c.args.s.now c.loop-b.b-index (omega arith))
