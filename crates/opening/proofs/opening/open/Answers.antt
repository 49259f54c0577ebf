use Rattle.opening.specs.Opening.{open_of}
use Rattle.opening.proofs.opening.open.Goals as goal

pub returns-then-legal : goal.returns-then-legal
unfolding open_of
returns-then-legal c = simp (← c.legal.ensures, c.if-legal.true, c.dated.ensures, c.epoch_instant.ensures)

pub returns : goal.returns
unfolding open_of
returns c = simp (← c.legal.ensures, c.if-legal.false)
