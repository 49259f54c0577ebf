use mathlib.Core.Path.{sym}
use Rattle.column_faults.proofs.Sums.{past_end}
use Rattle.column_faults.proofs.byte_at.Goals as goal

pub returns : goal.returns
returns c = sym (past_end c.args.line.now _ c.if-i-line.false)
