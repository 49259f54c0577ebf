use Rattle.text.proofs.Pieces.{both}
use Rattle.marked_line.proofs.put_quoted.Goals as goal

pub returns : goal.returns
returns c =
    let p = c.before.before in
    let q = p.before.before.before.before in
    let r = q in
    both r.put_byte-p.ensures (both q.put_byte-p-2.ensures p.put_byte.ensures)
