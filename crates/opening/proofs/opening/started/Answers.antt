use Rattle.opening.specs.Opening.{started}
use Rattle.opening.proofs.opening.started.Goals as goal

pub returns : goal.returns
unfolding started
returns c =
    simp (c.above.ensures, c.gsto_of-gsto.ensures, c.days_of-days.ensures, c.initl-i.ensures)
