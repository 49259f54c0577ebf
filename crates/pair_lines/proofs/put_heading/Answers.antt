use Rattle.text.proofs.Pieces.{both}
use Rattle.pair_lines.specs.Said.{heading_text}
use Rattle.pair_lines.proofs.put_heading.Goals as goal

pub returns : goal.returns
unfolding heading_text
returns c =
    let p = c.before.before in
    let q = p.before.before.before.before.before in
    let r = q.before.before.before.before in
    let s = r.before.before.before.before.before in
    let t = s in
    both t.put_bytes-p.ensures (both s.put_decimal-p.ensures (both r.put_bytes-p-2.ensures (both q.put_decimal-p-2.ensures p.put_bytes.ensures)))
