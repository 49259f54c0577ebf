use Rattle.requests.proofs.Answers.{in_range_lem, out_of_range}
use Rattle.requests.proofs.ask.Goals as goal

pub returns-then-in_range : goal.returns-then-in_range
returns-then-in_range c =
    let a = c.before.before.before in
    let i = a in
    in_range_lem _ _ _ _ _ _ i.in_range.ensures a.if-in_range.true a.reached-a.ensures c.row_at-row.ensures

pub returns : goal.returns
returns c = out_of_range _ _ _ _ _ c.in_range.ensures c.if-in_range.false c.refused_row-row.ensures
