use Rattle.std.proofs.Common.{take}
use Rattle.text.specs.Output.{Put}
use Rattle.field_lines.proofs.put_each.Given as goal

abbrev pub invariant-loop-b : goal.invariant-loop-b
invariant-loop-b l = Put l.initial.out l.at (take l.b-index l.bytes) l.out l.next
