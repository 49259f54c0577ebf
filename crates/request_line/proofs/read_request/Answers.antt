use Rattle.request_line.proofs.Prefix.{one_case, list_case, empty_case, longer_case, other_case}
use Rattle.request_line.proofs.read_request.Goals as goal

pub returns-then-begins : goal.returns-then-begins
returns-then-begins c =
    let a = c.args in
    one_case a.line.now a.row.now _ c.read_times-times.result c.as_one.result c.begins.ensures.0 c.if-begins.true c.read_times-times.ensures c.as_one.ensures

pub returns-then-begins-2 : goal.returns-then-begins-2
returns-then-begins-2 c =
    let a = c.args in
    let r = c.read_times-times-then-begins-2 in
    list_case a.line.now a.row.now _ r.result c.as_list.result c.begins.ensures.0 c.if-begins.false c.begins-2.ensures.0 c.if-begins-2.true r.ensures c.as_list.ensures

pub returns-then-line-eq4 : goal.returns-then-line-eq4
returns-then-line-eq4 c =
    let a = c.args in
    empty_case a.line.now a.row.now c.begins.ensures.0 c.if-begins.false c.begins-2.ensures.0 c.if-begins-2.false c.begins-3.ensures.0 c.if-begins-3.true c.if-line-eq4.true

pub returns-then-begins-3 : goal.returns-then-begins-3
returns-then-begins-3 c =
    let a = c.args in
    longer_case a.line.now a.row.now c.begins.ensures.0 c.if-begins.false c.begins-2.ensures.0 c.if-begins-2.false c.begins-3.ensures.0 c.if-begins-3.true c.if-line-eq4.false

pub returns : goal.returns
returns c =
    let a = c.args in
    other_case a.line.now a.row.now c.begins.ensures.0 c.if-begins.false c.begins-2.ensures.0 c.if-begins-2.false c.begins-3.ensures.0 c.if-begins-3.false
