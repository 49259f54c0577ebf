use Rattle.std.proofs.Common.{◌≡◌, ◌≤◌, ◌*◌}
use Rattle.award.specs.Plan.{sum_below, bid_at, most_cents}
use Rattle.award.proofs.total_of.Given as goal

abbrev pub invariant-loop-x : goal.invariant-loop-x
invariant-loop-x l = record {
  few : l.sum ≤ l.x-index * most_cents;
  so_far : l.sum ≡ sum_below (λ j. bid_at l.offers l.entries j) l.x-index;
}
