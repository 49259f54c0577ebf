use Rattle.pass_text.specs.Print.{edge_text}
use Rattle.text.proofs.Pieces.{both}
use Rattle.pass_text.proofs.put_edge.Goals as goal

pub returns : goal.returns
unfolding edge_text
returns c =
    let a = c.before.before in
    let b = a.before.before.before.before in
    let d = b in
    both d.put_instant-p.ensures
    (both b.put_bytes-p.ensures
    a.put_fixed.ensures)
