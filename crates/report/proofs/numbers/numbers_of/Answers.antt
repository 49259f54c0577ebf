use Rattle.report.specs.Numbers.{numbers_of}
use Rattle.report.proofs.numbers.numbers_of.Goals as goal

pub returns : goal.returns
unfolding numbers_of
returns c = simp c.span_of-span.ensures
