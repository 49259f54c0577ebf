use mathlib.Core.Path.{sym, ap}
use Rattle.pair_steps.specs.Steps.{is_over}
use Rattle.pair_steps.proofs.What.is_over.Goals as goal

pub returns-in-Pair : goal.returns-in-Pair
unfolding is_over
returns-in-Pair c = sym (ap is_over c.in-Pair.is)

pub returns-in-Said : goal.returns-in-Said
unfolding is_over
returns-in-Said c = sym (ap is_over c.in-Said.is)

pub returns-in-Over : goal.returns-in-Over
unfolding is_over
returns-in-Over c = sym (ap is_over c.in-Over.is)
