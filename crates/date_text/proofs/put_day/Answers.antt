use Rattle.text.proofs.Pieces.{both}
use Rattle.date_text.specs.Date.{day_text}
use Rattle.date_text.proofs.put_day.Goals as goal

pub returns : goal.returns
unfolding day_text
returns c =
    let e = c.before.before in
    let d = e.before.before.before.before in
    let b = d.before.before.before.before in
    let a = b.before.before.before.before in
    let y = a in
    both y.put_last_places-p.ensures (both a.put_byte-p.ensures (both b.put_last_places-p-2.ensures (both d.put_byte-p-2.ensures e.put_last_places.ensures)))
