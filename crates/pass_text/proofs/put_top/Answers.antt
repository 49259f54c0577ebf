use Rattle.pass_text.specs.Print.{top_text}
use Rattle.text.proofs.Pieces.{both}
use Rattle.pass_text.proofs.put_top.Goals as goal

pub returns : goal.returns
unfolding top_text
returns c =
    let a = c.before.before in
    let b = a.before.before.before.before in
    let d = b.before.before.before.before.before in
    let e = d in
    both e.put_bytes-p.ensures
    (both d.put_instant-p.ensures
    (both b.put_bytes-p-2.ensures
    a.put_fixed.ensures))
