use Rattle.text.proofs.Pieces.{both, same}
use Rattle.field_lines.proofs.Pieces.{fields_text_lem}
use Rattle.field_lines.proofs.put_legal.Goals as goal

pub returns : goal.returns
returns c =
    let a = c.args in
    same (fields_text_lem a.a.number a.a a.b) (both c.put_shape-p.ensures c.put_counts.ensures)
