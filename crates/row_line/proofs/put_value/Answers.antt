use Rattle.text.proofs.Pieces.{both}
use Rattle.row_line.proofs.put_value.Goals as goal

pub returns : goal.returns
returns c = let p = c in both p.put_byte-p.ensures p.put_pattern.ensures
