use borrow.Author.Tests.{le-leb, lt-leb}
use Rattle.tle.specs.Read.{year_of}
use Rattle.tle.proofs.reader.year_at.Goals as goal

pub returns-then-yy-ge57 : goal.returns-then-yy-ge57
unfolding year_of
returns-then-yy-ge57 c = rw (← c.field_at-yy.ensures.0) (simp (le-leb _ _ c.if-yy-ge57.true))

pub returns : goal.returns
unfolding year_of
returns c = rw (← c.field_at-yy.ensures.0) (simp (lt-leb _ _ c.if-yy-ge57.false))
