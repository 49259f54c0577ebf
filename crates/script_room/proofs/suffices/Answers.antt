use Rattle.script_room.specs.Room.{suffices}
use Rattle.script_room.proofs.suffices.Goals as goal

pub returns-then-has_room : goal.returns-then-has_room
unfolding suffices
returns-then-has_room c = simp (← c.has_room.ensures, c.if-has_room.true, c.has_calls.ensures)

pub returns : goal.returns
unfolding suffices
returns c = simp (← c.has_room.ensures, c.if-has_room.false)
