use Prim.Native.Nat.{◌≤◌}
use native.Mathlib.Omega.{arith}
use Rattle.instant.specs.Calendar.{day_in_range}
use Rattle.instant.proofs.Calendar.{last_day_most}
use Rattle.instant.proofs.day_in_range.Tie as tie
use Rattle.instant.proofs.day_in_range.Lts as lts
use Rattle.instant.proofs.day_in_range.Reads as reads
use Rattle.instant.proofs.day_in_range.Goals as goal

most : (c : (lts.After-last_day tie.the-claims reads.Pre reads.Post)) → c.last_day.result ≤ 366
most c = rw c.last_day.ensures (last_day_most _)

pub overflow_add-result : goal.overflow_add-result
unfolding day_in_range
overflow_add-result c = omega (arith, most c)

pub overflow_mul-result : goal.overflow_mul-result
unfolding day_in_range
overflow_mul-result c = omega (arith, most c)

pub returns : goal.returns
unfolding day_in_range
returns c = simp c.last_day.ensures
