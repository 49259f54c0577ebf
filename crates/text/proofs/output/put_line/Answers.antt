use Rattle.text.specs.Output.{line}
use Rattle.text.proofs.Pieces.{both}
use Rattle.text.proofs.output.put_line.Goals as goal

pub returns : goal.returns
unfolding line
returns c =
    let p = c in
    let q = p in
    both q.put_bytes-p.ensures (both q.put_decimal-p.ensures p.put_byte.ensures)
