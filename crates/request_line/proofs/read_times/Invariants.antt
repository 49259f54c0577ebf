use Rattle.std.proofs.Common.{◌≤◌, drop}
use Rattle.request_line.specs.Times.{times_of, limit}
use Rattle.request_line.proofs.Reading.{Todo, begun}
use Rattle.request_line.proofs.read_times.Given as goal

abbrev pub invariant-loop-b : goal.invariant-loop-b
invariant-loop-b l = record {
  begun_so_far : begun l.t ≤ l.b-index;
  within : l.t.value ≤ limit;
  to_do : Todo (times_of l.s) l.initial.row l.t l.row (drop l.b-index l.s);
}
