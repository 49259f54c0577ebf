use Rattle.text.proofs.Pieces.{both}
use Rattle.pair_lines.specs.Said.{said_text}
use Rattle.pair_lines.proofs.put_said.Goals as goal

pub returns : goal.returns
unfolding said_text
returns c =
    let p = c.before.before in
    let q = p.before.before.before.before in
    let r = q.before.before.before.before in
    let s = r in
    both s.put_bytes-p.ensures (both r.put_decimal-p.ensures (both q.put_phrase-p.ensures p.put_shown.ensures))
