use Rattle.number_list.proofs.Reading.{room, no_room, at_the_edge}
use Rattle.number_list.proofs.has_room.Goals as goal

pub returns-then-value-lt1844674407370955161 : goal.returns-then-value-lt1844674407370955161
returns-then-value-lt1844674407370955161 c = room _ _ c.requires c.if-value-lt1844674407370955161.true

pub returns-then-value-gt1844674407370955161 : goal.returns-then-value-gt1844674407370955161
returns-then-value-gt1844674407370955161 c = no_room _ _ c.if-value-gt1844674407370955161.true

pub returns : goal.returns
returns c = at_the_edge _ _ c.if-value-lt1844674407370955161.false c.if-value-gt1844674407370955161.false
