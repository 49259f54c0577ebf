use Rattle.profile.proofs.Rooms.{room_short, room_enough}
use Rattle.profile.proofs.rows.request.Goals as goal

pub returns-then-state-lt6 : goal.returns-then-state-lt6
returns-then-state-lt6 c =
    let rest = room_short _ _ c.if-state-lt6.true in
    record { value = rest.0; state_after = rest.1 }

pub returns : goal.returns
returns c =
    let rest = room_enough _ _ _ _ c.if-state-lt6.false c.row_at-row.ensures c.put_front.ensures in
    record { value = rest.0; state_after = rest.1 }
