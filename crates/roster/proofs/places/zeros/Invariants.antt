use Rattle.std.proofs.Common.{◌≡◌, ◌&&◌, drop}
use Rattle.roster.specs.Roster.{all_zero}
use Rattle.roster.proofs.places.zeros.Given as goal

abbrev pub invariant-loop-b : goal.invariant-loop-b
invariant-loop-b l = all_zero l.s ≡ l.clear && all_zero (drop l.b-index l.s)
