use Rattle.std.proofs.Common.{◌≡◌, ◌≤◌, length}
use Rattle.roster.proofs.Passes.{At}
use Rattle.roster.proofs.scan.scan_places.Given as goal

abbrev pub invariant-loop-i : goal.invariant-loop-i
invariant-loop-i l = record {
  counted_all : l.t.count ≡ l.i;
  below_few : l.t.below ≤ l.i;
  row_length : length l.row ≡ 64;
  passed : At l.b l.number l.i l.t l.row;
}
