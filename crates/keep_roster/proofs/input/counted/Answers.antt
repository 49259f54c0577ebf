use Rattle.keep_roster.specs.Told.{counted_with}
use Rattle.keep_roster.proofs.input.counted.Goals as goal

pub returns-then-lodged : goal.returns-then-lodged
unfolding counted_with
returns-then-lodged c = simp (c.more.ensures, c.more-pairs.ensures, c.if-lodged.true)

pub returns : goal.returns
unfolding counted_with
returns c = simp (c.more-pairs.ensures, c.if-lodged.false)
