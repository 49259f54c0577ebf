use Rattle.std.proofs.Common.{◌≡◌, ◌≤◌, drop}
use Rattle.station_text.specs.Words.{digits_on, most_whole}
use Rattle.station_text.proofs.digits_on.Given as goal

abbrev pub invariant-loop-b : goal.invariant-loop-b
invariant-loop-b l = record {
  bounded : l.v ≤ most_whole;
  to_come : digits_on l.v (drop l.b-index l.s) ≡ digits_on l.value l.s;
}
