use mathlib.Core.Path.{ap}
use Prim.Native.Nat.{ℕ}
use lib.Dec.{ltb}
use Rattle.compare.proofs.Answers.{roomy, size}
use Rattle.compare.proofs.lacks_room.Goals as goal

pub returns-then-room-ge24448 : goal.returns-then-room-ge24448
returns-then-room-ge24448 c = roomy c.args.a.now c.args.b.now c.requires.0 c.requires.1 c.args.room c.if-room-ge24448.true

pub returns : goal.returns
returns c =
    ap (λ (n : ℕ). ltb c.args.room n) (size c.args.a.now c.args.b.now c.requires.0 c.requires.1 c.put_changes-size.ensures)
