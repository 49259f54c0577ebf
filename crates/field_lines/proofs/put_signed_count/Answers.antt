use mathlib.Core.Path.{ap}
use native.Mathlib.Omega.{arith}
use Rattle.text.proofs.Pieces.{same}
use Rattle.text.specs.Output.{signed}
use lib.IntN.{◌-ℤ◌}
use Rattle.changes.specs.Entry.{sameℤ}
use Rattle.text.proofs.Signed.{steady}
use Rattle.field_lines.proofs.Pieces.{put_line, put_none, same_yes, same_no, less_fits}
use Rattle.field_lines.proofs.put_signed_count.Goals as goal

pub returns-then-first-second : goal.returns-then-first-second
returns-then-first-second c =
    let a = c.args in
    put_none (sameℤ a.first a.second) a.number a.label.now (signed (a.second -ℤ a.first)) (same_yes a.first a.second c.ranges.first c.ranges.second c.if-first-second.true) (omega arith) (omega arith)

pub overflow_sub-second : goal.overflow_sub-second
overflow_sub-second c =
    rw (steady c.args.second c.ranges.second, steady c.args.first c.ranges.first) (less_fits c.args.first c.args.second c.requires.0 c.requires.1)

pub returns : goal.returns
returns c =
    let a = c.args in
    let d = less_fits a.first a.second c.requires.0 c.requires.1 in
    put_line (sameℤ a.first a.second) a.number a.label.now (signed (a.second -ℤ a.first)) (same_no a.first a.second c.ranges.first c.ranges.second c.if-first-second.false)
    c.put_name-p.ensures
    (same (ap signed (rw (steady a.second c.ranges.second, steady a.first c.ranges.first) (steady (a.second -ℤ a.first) d))) c.put_signed-p.ensures)
    c.put_byte.ensures
