use Rattle.text.proofs.Pieces.{both, same}
use Rattle.field_lines.proofs.Pieces.{less_minus, less_plus}
use Rattle.field_lines.proofs.put_less.Goals as goal

pub returns-then-second-first : goal.returns-then-second-first
returns-then-second-first c =
    same (less_minus c.args.second c.args.first c.if-second-first.true) (both c.put_byte-p.ensures c.put_decimal.ensures)

pub returns : goal.returns
returns c = same (less_plus c.args.second c.args.first c.if-second-first.false) c.put_decimal-2.ensures
