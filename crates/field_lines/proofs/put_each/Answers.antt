use Rattle.std.proofs.Common.{arith, add-one}
use Rattle.std.proofs.Math.Seq.{take-suc}
use Rattle.text.proofs.Pieces.{both}
use Rattle.field_lines.proofs.put_each.Goals as goal

pub loop-b-preserved : goal.loop-b-preserved
loop-b-preserved c =
    let i = c.loop-b.b-index in
    rw (add-one, take-suc c.args.bytes.now i 0 (omega arith)) (both c.loop-b.invariant c.put_byte-next.ensures)
