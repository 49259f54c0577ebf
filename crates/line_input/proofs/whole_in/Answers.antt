use mathlib.Core.Path.{refl}
use native.Mathlib.Omega.{arith}
use borrow.Author.Tests.{le-leb, lt-leb}
use Rattle.io.proofs.Counting.{prefix_len_of_le}
use Rattle.line_input.specs.Lines.{whole_in}
use Rattle.line_input.proofs.whole_in.Goals as goal

pub returns-then-size-room : goal.returns-then-size-room
unfolding whole_in
returns-then-size-room c =
    record { value = simp (le-leb _ _ c.if-size-room.true); prefix_len = prefix_len_of_le _ _ c.if-size-room.true }

pub returns : goal.returns
unfolding whole_in
returns c = record { value = simp (lt-leb _ _ c.if-size-room.false); prefix_len = (omega arith, refl) }
