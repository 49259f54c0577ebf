use Rattle.text.proofs.Pieces.{both}
use Rattle.row_line.specs.Row.{three_text}
use Rattle.row_line.proofs.put_three.Goals as goal

pub returns : goal.returns
unfolding three_text
returns c =
    let r = c.before.before in
    let q = r in
    both q.put_value-p.ensures (both q.put_value-p-2.ensures r.put_value.ensures)
