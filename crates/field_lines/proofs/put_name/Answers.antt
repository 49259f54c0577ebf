use Rattle.text.proofs.Pieces.{both}
use Rattle.field_lines.specs.Lines.{named}
use Rattle.field_lines.proofs.put_name.Goals as goal

pub returns : goal.returns
unfolding named
returns c =
    both c.put_decimal-p.ensures (both c.put_byte-p.ensures (both c.put_each-p.ensures c.put_byte.ensures))
