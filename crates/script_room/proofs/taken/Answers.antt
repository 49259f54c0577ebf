use Rattle.script_room.proofs.Room.{taken_zero, taken_one, taken_more}
use Rattle.script_room.proofs.taken.Goals as goal

pub returns-then-n-eq0 : goal.returns-then-n-eq0
returns-then-n-eq0 c = taken_zero _ c.if-n-eq0.true

pub returns-then-n-eq1 : goal.returns-then-n-eq1
returns-then-n-eq1 c = taken_one _ c.if-n-eq1.true

pub returns : goal.returns
returns c = taken_more _ c.if-n-eq0.false c.if-n-eq1.false
