use Rattle.text.proofs.Pieces.{both}
use Rattle.marked_line.specs.Marked.{marked}
use Rattle.marked_line.proofs.put_marked.Goals as goal

pub returns : goal.returns
unfolding marked
returns c =
    let p = c.before.before in
    let q = p.before.before.before.before in
    let r = q.before.before.before.before in
    let s = r.before.before.before.before in
    let t = s in
    both t.put_shown-p.ensures (both s.put_bytes-p.ensures (both r.put_repeated-p.ensures (both q.put_repeated-p-2.ensures p.put_byte.ensures)))
