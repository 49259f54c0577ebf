use mathlib.Core.Path.{ap, sym}
use Rattle.text.proofs.Pieces.{same}
use Rattle.reading_faults.specs.Fault.{on_line}
use Rattle.reading_faults.proofs.put_on_line.Goals as goal

pub returns-in-One : goal.returns-in-One
unfolding on_line
returns-in-One c =
    let g = c.in-One.is in
    let a = c.args in
    same (sym (ap (λ w. on_line w a.why a.line1.now a.line2.now) g)) c.put_line_fault.ensures

pub returns-in-Two : goal.returns-in-Two
unfolding on_line
returns-in-Two c =
    let g = c.in-Two.is in
    let a = c.args in
    same (sym (ap (λ w. on_line w a.why a.line1.now a.line2.now) g)) c.put_line_fault-in-Two.ensures
