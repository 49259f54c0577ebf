use mathlib.Core.Path.{sym, ap, ◌∙◌}
use Rattle.opening.specs.Opening.{after_reading, opened}
use Rattle.opening.proofs.opening.after_reading.Goals as goal

pub returns-in-Ok : goal.returns-in-Ok
unfolding after_reading
returns-in-Ok c = c.opened.ensures ∙ ap opened c.«open».ensures ∙ sym (ap after_reading c.in-Ok.is)

pub returns-in-Err : goal.returns-in-Err
unfolding after_reading
returns-in-Err c = sym (ap after_reading c.in-Err.is)
