use native.Mathlib.Omega.{arith}
use borrow.Author.Tests.{lt-ltb, le-ltb}
use Rattle.station_text.specs.Words.{pushed}
use Rattle.station_text.proofs.push.Goals as goal

pub returns-then-v-gt999999999999999999 : goal.returns-then-v-gt999999999999999999
unfolding pushed
returns-then-v-gt999999999999999999 c = (simp (lt-ltb _ _ c.if-v-gt999999999999999999.true), omega arith)

pub returns : goal.returns
unfolding pushed
returns c = (simp (le-ltb _ _ c.if-v-gt999999999999999999.false), c.if-v-gt999999999999999999.false)
