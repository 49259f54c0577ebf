use Rattle.std.proofs.Common.{◌≡◌, drop}
use Rattle.script_room.specs.Room.{roomy}
use Rattle.script_room.proofs.roomy.Given as goal

-- what is left of the script, in what is left of the room
abbrev pub invariant-loop-n : goal.invariant-loop-n
invariant-loop-n l = roomy l.lengths l.room ≡ roomy (drop l.n-index l.lengths) l.left
