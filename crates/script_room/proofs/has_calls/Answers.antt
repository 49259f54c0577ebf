use mathlib.Core.Path.{refl}
use Rattle.script_room.specs.Room.{calls_for}
use Rattle.script_room.proofs.has_calls.Goals as goal

pub returns : goal.returns
unfolding calls_for
returns c = refl
