use Rattle.profile.proofs.Rooms.{row_put_lem, row_kept}
use Rattle.profile.proofs.rows.put_front.Goals as goal

pub returns-then-row-eq0 : goal.returns-then-row-eq0
returns-then-row-eq0 c = row_put_lem _ _ _ c.requires c.if-row-eq0.true c.put_state.ensures

pub returns-else-row-eq0 : goal.returns-else-row-eq0
returns-else-row-eq0 c = row_kept _ _ c.if-row-eq0.false
