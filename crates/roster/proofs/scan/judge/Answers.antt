use Rattle.roster.proofs.Found.{judged_agreeing, judged_apart}
use Rattle.roster.proofs.scan.judge.Goals as goal

pub returns-then-same_row : goal.returns-then-same_row
returns-then-same_row c =
    let a = c.args in
    judged_agreeing a.number a.b.now a.row.now c.scan_buffer-s.result c.scan_buffer-s.ensures c.same_row.result c.same_row.ensures c.if-same_row.true

pub returns : goal.returns
returns c =
    let a = c.args in
    judged_apart a.number a.b.now a.row.now c.scan_buffer-s.result c.scan_buffer-s.ensures c.same_row.result c.same_row.ensures c.if-same_row.false
