use Rattle.text.proofs.Pieces.{both}
use Rattle.marked_line.specs.Marked.{shown}
use Rattle.marked_line.proofs.put_shown.Goals as goal

pub returns : goal.returns
unfolding shown
returns c =
    let p = c.before.before in
    let q = p.before.before.before.before in
    let r = q in
    both r.put_bytes-p.ensures (both q.put_front-p.ensures p.put_byte.ensures)
