use mathlib.Core.Path.{◌∙◌}
use Rattle.tle.specs.Number.{signed}
use Rattle.tle.proofs.WithSign.{sub_fits, minus64, plus64}
use Rattle.tle.proofs.reader.with_sign.Goals as goal

pub overflow_sub-result : goal.overflow_sub-result
overflow_sub-result c = sub_fits c.args.n c.requires

pub returns-then-minus : goal.returns-then-minus
unfolding signed
returns-then-minus c = minus64 c.args.n c.requires ∙ rw c.if-minus.true

pub returns : goal.returns
unfolding signed
returns c = plus64 c.args.n c.requires ∙ rw c.if-minus.false
