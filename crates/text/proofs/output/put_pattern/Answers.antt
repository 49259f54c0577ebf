use Rattle.text.proofs.Floats.{no_number}
use Rattle.text.proofs.Pieces.{same}
use Rattle.text.proofs.output.put_pattern.Goals as goal

pub returns : goal.returns
returns c =
    let i = c in
    same (no_number i.args.x i.if-x.false) c.put_bytes.ensures
