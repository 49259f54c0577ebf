use Rattle.std.proofs.Common.{rules}
use Rattle.column_faults.proofs.Sums.{minuses_sum}
use Rattle.column_faults.proofs.minus_count.Goals as goal

pub returns : goal.returns
returns c = rw minuses_sum (search rules)
