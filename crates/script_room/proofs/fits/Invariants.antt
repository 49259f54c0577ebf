use Rattle.std.proofs.Common.{◌≡◌, ◌+◌, take}
use Rattle.script_room.specs.Room.{needed}
use Rattle.script_room.proofs.fits.Given as goal

abbrev pub invariant-loop-length : goal.invariant-loop-length
invariant-loop-length l = needed (take l.length-index l.lengths) + l.left ≡ l.room
