use Rattle.std.proofs.Common.{replicate}
use Rattle.text.specs.Output.{Put}
use Rattle.marked_line.proofs.put_repeated.Given as goal

abbrev pub invariant-loop : goal.invariant-loop
invariant-loop l = Put l.initial.out l.at (replicate l.counter l.byte) l.out l.next
