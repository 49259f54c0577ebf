use mathlib.Core.Path.{ap}
use Rattle.text.specs.Output.{decimal}
use Rattle.text.proofs.Pieces.{both, same}
use Rattle.row_line.specs.Row.{row_text}
use Rattle.row_line.proofs.put_row.Goals as goal

pub returns : goal.returns
unfolding row_text
returns c =
    let g = c.before.before in
    let f = g.before.before.before.before in
    let e = f.before.before.before.before.before in
    let d = e.before.before.before.before in
    let b = d.before.before.before.before in
    let a = b in
    both a.put_bytes-p.ensures
    (both (same (ap decimal a.wide.ensures) a.put_decimal-p.ensures)
    (both b.put_three-p.ensures
    (both d.put_three-p-2.ensures
    (both e.put_byte-p.ensures
    (both (same (ap decimal f.wide-2.ensures) f.put_decimal-p-2.ensures)
    g.put_byte.ensures)))))
