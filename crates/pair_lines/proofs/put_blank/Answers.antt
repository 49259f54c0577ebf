use Rattle.text.proofs.Pieces.{both}
use Rattle.pair_lines.specs.Said.{blank_text}
use Rattle.pair_lines.proofs.put_blank.Goals as goal

pub returns : goal.returns
unfolding blank_text
returns c =
    let p = c.before.before in
    let q = p.before.before.before.before.before in
    let r = q in
    both r.put_bytes-p.ensures (both q.put_decimal-p.ensures p.put_bytes.ensures)
