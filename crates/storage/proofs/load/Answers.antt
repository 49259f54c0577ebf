use Rattle.storage.specs.Storage.{loading_of, too_short}
use borrow.Author.Tests.{lt-ltb, le-ltb}
use Rattle.storage.proofs.load.Goals as goal

pub returns-then-numbers-lt83 : goal.returns-then-numbers-lt83
unfolding loading_of too_short
returns-then-numbers-lt83 c = simp (lt-ltb _ _ c.if-numbers-lt83.true)

pub returns-then-marks-lt6 : goal.returns-then-marks-lt6
unfolding loading_of too_short
returns-then-marks-lt6 c = simp (le-ltb _ _ c.if-numbers-lt83.false, lt-ltb _ _ c.if-marks-lt6.true)

pub returns : goal.returns
unfolding loading_of too_short
returns c = simp (le-ltb _ _ c.if-numbers-lt83.false, le-ltb _ _ c.if-marks-lt6.false, c.held.ensures)
