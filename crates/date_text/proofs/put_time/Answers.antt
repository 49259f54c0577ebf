use Rattle.text.proofs.Pieces.{both}
use Rattle.date_text.specs.Date.{time_text}
use Rattle.date_text.proofs.put_time.Goals as goal

pub returns : goal.returns
unfolding time_text
returns c =
    let g = c.before.before in
    let f = g.before.before.before.before in
    let e = f.before.before.before.before in
    let d = e.before.before.before.before in
    let b = d.before.before.before.before in
    let a = b.before.before.before.before in
    let h = a in
    both h.put_last_places-p.ensures
    (both a.put_byte-p.ensures
    (both b.put_last_places-p-2.ensures
    (both d.put_byte-p-2.ensures
    (both e.put_last_places-p-3.ensures
    (both f.put_byte-p-3.ensures
    g.put_last_places.ensures)))))
