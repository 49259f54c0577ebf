use Rattle.tle.specs.Read.{meaning_of}
use borrow.Author.Tests.{not-true, not-false}
use Rattle.tle.proofs.reader.read_meaning.Goals as goal

pub returns-then-not-fields : goal.returns-then-not-fields
unfolding meaning_of
returns-then-not-fields c = simp (not-true c.args.fields.1 c.if-not-fields.true)

pub returns : goal.returns
unfolding meaning_of
returns c = simp (c.judge_ranges.ensures, not-false c.args.fields.1 c.if-not-fields.false)
