use mathlib.Core.Path.{sym, ap}
use Rattle.opening.specs.Opening.{opened}
use Rattle.opening.proofs.opening.opened.Goals as goal

pub returns-in-Ok : goal.returns-in-Ok
unfolding opened
returns-in-Ok c = ap opened (sym c.in-Ok.is)

pub returns-in-Err : goal.returns-in-Err
unfolding opened
returns-in-Err c = ap opened (sym c.in-Err.is)
