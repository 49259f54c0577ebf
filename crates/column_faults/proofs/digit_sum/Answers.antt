use Rattle.std.proofs.Common.{rules}
use Rattle.column_faults.proofs.Sums.{digits_sum}
use Rattle.column_faults.proofs.digit_sum.Goals as goal

pub returns : goal.returns
returns c = rw digits_sum (search rules)
