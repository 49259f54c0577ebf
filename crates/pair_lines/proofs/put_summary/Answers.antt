use Rattle.text.proofs.Pieces.{both}
use Rattle.pair_lines.specs.Said.{summary_text}
use Rattle.pair_lines.proofs.put_summary.Goals as goal

pub returns : goal.returns
unfolding summary_text
returns c =
    let p = c.before.before in
    let q = p.before.before.before.before in
    let r = q.before.before.before.before in
    let s = r.before.before.before.before.before in
    let t = s.before.before.before.before in
    let u = t.before.before.before.before.before in
    let v = u in
    both v.put_bytes-p.ensures (both u.put_decimal-p.ensures (both t.put_bytes-p-2.ensures (both s.put_decimal-p-2.ensures (both r.put_bytes-p-3.ensures (both q.put_decimal-p-3.ensures p.put_byte.ensures)))))
