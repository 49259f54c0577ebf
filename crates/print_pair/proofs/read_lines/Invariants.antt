use Rattle.text.specs.Input.{started, More}
use Rattle.print_pair.proofs.read_lines.Given as goal

abbrev pub invariant-loop : goal.invariant-loop
invariant-loop l = More started l.lines
