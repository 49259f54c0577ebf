use Rattle.std.proofs.Common.{map, take}
use Rattle.text.specs.Output.{Put}
use Rattle.marked_line.specs.Marked.{visible}
use Rattle.marked_line.proofs.put_visible.Given as goal

abbrev pub invariant-loop-b : goal.invariant-loop-b
invariant-loop-b l = Put l.initial.out l.at (map visible (take l.b-index l.line)) l.out l.next
