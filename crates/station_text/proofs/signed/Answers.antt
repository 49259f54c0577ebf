use Rattle.station_text.specs.Words.{signed_of}
use Rattle.station_text.proofs.signed.Goals as goal

pub returns-then-minus : goal.returns-then-minus
unfolding signed_of
returns-then-minus c = simp (c.if-minus.true, c.decimal-x.ensures)

pub returns : goal.returns
unfolding signed_of
returns c = simp (c.if-minus.false, c.decimal-x.ensures)
