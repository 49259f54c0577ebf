use Rattle.text.proofs.Pieces.{both}
use Rattle.marked_line.specs.Marked.{numbered}
use Rattle.marked_line.proofs.put_numbered.Goals as goal

pub returns : goal.returns
unfolding numbered
returns c =
    let p = c.before.before in
    let q = p in
    both q.put_bytes-p.ensures p.put_decimal.ensures
