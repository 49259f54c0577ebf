use mathlib.Core.Path.{ap}
use Rattle.text.proofs.Pieces.{both, same}
use Rattle.date_text.specs.Date.{day_text, date_text}
use Rattle.date_text.proofs.put_date.Goals as goal

pub returns : goal.returns
unfolding date_text
returns c =
    let q = c.before.before in
    let p = q.before.before.before.before in
    let d = p.before.before.before.before in
    let m = d in
    both (same (ap (day_text _) m.month_of-m.ensures) d.put_day-p.ensures) (both p.put_byte-p.ensures q.put_time.ensures)
