use Rattle.std.proofs.Common.{false, ◌≤◌, drop}
use Rattle.number_list.specs.Numbers.{read_on}
use Rattle.number_list.proofs.Reading.{Todo, begun}
use Rattle.number_list.proofs.read_on.Given as goal

abbrev pub invariant-loop-b : goal.invariant-loop-b
invariant-loop-b l = record {
  begun_so_far : begun l.t ≤ l.b-index;
  to_do : Todo (read_on false 0 l.s) l.initial.row l.t l.row (drop l.b-index l.s);
}
