use Rattle.sgp4.proofs.Two.{rows_both, rows_apart}
use Rattle.sgp4.proofs.pairs.rows_at.Goals as goal

pub returns-in-Some : goal.returns-in-Some
returns-in-Some c =
    let q = c.before.before in
    let r = q in
    rows_both _ _ _ _ _ _ _ _ _ _ _ _ _ r.to_minutes.ensures r.to_minutes-2.ensures r.ready_by.ensures q.pair_of.ensures c.in-Some.is
    c.row_of.ensures c.row_of-in-Some.ensures

pub returns-in-None : goal.returns-in-None
returns-in-None c =
    let q = c.before.before in
    let r = q in
    rows_apart _ _ _ _ _ _ _ _ _ _ _ r.to_minutes.ensures r.to_minutes-2.ensures r.ready_by.ensures q.pair_of.ensures c.in-None.is
    c.row_at.ensures c.row_at-in-None.ensures
