use Rattle.text.proofs.Pieces.{both}
use Rattle.ephemeris_text.specs.Rows.{header_text}
use Rattle.ephemeris_text.proofs.put_header.Goals as goal

pub returns : goal.returns
unfolding header_text
returns c =
    let z = c.before.before in
    let y = z.before.before.before.before in
    let x = y.before.before.before.before.before in
    let w = x.before.before.before.before in
    let v = w in
    both v.put_bytes-p.ensures (both w.put_word-p.ensures (both x.put_state_names-p.ensures (both y.put_word-p-2.ensures z.put_byte.ensures)))
