use Rattle.std.proofs.Common.{◌≡◌, ◌≤◌, drop}
use Rattle.compare.specs.Walk.{records_in, front}
use Rattle.compare.proofs.Turns.{Going}
use Rattle.compare.proofs.put_changes.Given as goal

abbrev pub invariant-loop : goal.invariant-loop
invariant-loop l = record {
  first_few : l.i ≤ l.counter;
  second_few : l.j ≤ l.counter;
  first_next : l.x ≡ front (drop l.i (records_in l.a));
  second_next : l.y ≡ front (drop l.j (records_in l.b));
  going : Going l.initial.out 0 (records_in l.a) (records_in l.b) l.out l.next l.i l.j l.counter;
}
