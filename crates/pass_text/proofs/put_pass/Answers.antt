use Rattle.pass_text.specs.Print.{pass_text}
use Rattle.text.proofs.Pieces.{both}
use Rattle.pass_text.proofs.put_pass.Goals as goal

pub returns : goal.returns
unfolding pass_text
returns c =
    let a = c.before.before in
    let b = a.before.before.before.before in
    let d = b.before.before.before.before in
    let e = d.before.before.before.before in
    let f = e.before.before.before.before in
    let g = f in
    both g.put_rise_word-p.ensures
    (both f.put_edge-p.ensures
    (both e.put_top-p.ensures
    (both d.put_set_word-p.ensures
    (both b.put_edge-p-2.ensures
    a.put_byte.ensures))))
