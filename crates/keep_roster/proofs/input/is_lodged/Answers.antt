use mathlib.Core.Path.{sym, ap}
use Rattle.keep_roster.specs.Told.{is_lodged}
use Rattle.keep_roster.proofs.input.is_lodged.Goals as goal

pub returns-in-Ok : goal.returns-in-Ok
unfolding is_lodged
returns-in-Ok c = sym (ap is_lodged c.in-Ok.is)

pub returns-in-Err : goal.returns-in-Err
unfolding is_lodged
returns-in-Err c = sym (ap is_lodged c.in-Err.is)
