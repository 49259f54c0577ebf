use Rattle.text.proofs.Pieces.{both}
use Rattle.ephemeris_text.specs.Rows.{row_text}
use Rattle.ephemeris_text.proofs.put_row.Goals as goal

pub returns : goal.returns
unfolding row_text
returns c =
    let z = c.before.before in
    let y = z.before.before.before.before in
    let x = y.before.before.before.before in
    let w = x.before.before.before.before in
    let v = w in
    both v.put_when-p.ensures (both w.put_count-p.ensures (both x.put_values-p.ensures (both y.put_count-p-2.ensures z.put_byte.ensures)))
