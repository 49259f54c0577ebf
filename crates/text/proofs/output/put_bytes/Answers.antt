use native.Mathlib.Omega.{arith}
use Rattle.text.proofs.Pieces.{copied}
use Rattle.text.proofs.output.put_bytes.Goals as goal

pub returns : goal.returns
returns c = record {
  room = omega arith;
  counted = c.saturating_add.ensures;
  stored = rw c.copy_from_slice.ensures.after (copied c.args.bytes.now c.args.out.now c.args.at c.min-from.result c.min-n.result c.min-from.ensures c.min-n.ensures);
}
