use Rattle.windows.proofs.Scanning.{further_on, further_off}
use Rattle.windows.proofs.further.Goals as goal

pub returns-then-r : goal.returns-then-r
returns-then-r c = further_on c.args.r _ c.if-r.true

pub returns : goal.returns
returns c = further_off c.args.r _ c.if-r.false
